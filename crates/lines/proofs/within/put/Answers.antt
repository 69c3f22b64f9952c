-- `lines::within::put` meets its contract: the bytes stand in the place of as many of the buffer's.
use native.Mathlib.Omega.{arith}
use Rattle.lines.proofs.putting.Placing.{put_part}
use Rattle.lines.proofs.within.put.Goals as goal

pub returns : goal.returns
returns c = let a = c.args in (rw c.copy_from_slice.ensures.after (put_part a.buffer.now a.at a.text.now), omega arith)
