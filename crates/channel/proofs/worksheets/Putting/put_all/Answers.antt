-- By where the sheets come from.
use Rattle.channel.proofs.worksheets.Putting.put_all.Goals as goal

pub returns-in-Bytes : goal.returns-in-Bytes
returns-in-Bytes c = rw c.in-Bytes.is c.put_bytes.ensures

pub returns-in-Typed : goal.returns-in-Typed
returns-in-Typed c = rw c.in-Typed.is c.put_typed.ensures
