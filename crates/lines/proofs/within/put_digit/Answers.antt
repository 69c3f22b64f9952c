-- `lines::put_digit` meets its contract: a count below ten is its own digit.
use native.Mathlib.Omega.{arith}
use Rattle.lines.proofs.putting.Counting.{count_one}
use Rattle.lines.proofs.putting.Placing.{put_byte}
use Rattle.lines.proofs.within.put_digit.Goals as goal

pub returns : goal.returns
returns c = (rw (c.digit.ensures, count_one c.args.count c.requires.0) (put_byte c.requires.1), omega arith)
