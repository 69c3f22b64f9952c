-- `lines::within::put_byte` meets its contract: the byte stands at its place.
use native.Mathlib.Omega.{arith}
use Rattle.lines.proofs.putting.Placing.{put_byte}
use Rattle.lines.proofs.within.put_byte.Goals as goal

pub returns : goal.returns
returns c = (put_byte c.requires, omega arith)
