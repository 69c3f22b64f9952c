-- Its name is the part of the text that was found.
use Rattle.channel.proofs.worksheets.Putting.put_named.Goals as goal

pub returns : goal.returns
returns c = rw (← c.name_after-name.ensures.0, ← c.bytes_for-bytes.ensures) c.put_one.ensures
