-- `lines::put_plain` meets its contract: by the form; there is nothing to put for the worksheet alone.
use native.Mathlib.Omega.{arith}
use Rattle.lines.proofs.putting.Placing.{put_none}
use Rattle.lines.proofs.put_plain.Goals as goal

pub returns-in-Alone : goal.returns-in-Alone
returns-in-Alone c = rw c.in-Alone.is (put_none, omega arith)
