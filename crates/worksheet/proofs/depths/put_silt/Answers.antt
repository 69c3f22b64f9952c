-- `worksheet::depths::put_silt` meets its contract: a line with an end to its silt has the numbers and why it cannot be used.
use native.Mathlib.Omega.{arith}
use borrow.Author.Tests.{lt-ltb}
use Rattle.lines.proofs.putting.Placing.{put_on}
use Rattle.worksheet.specs.Depths.{silt_line}
use Rattle.worksheet.proofs.depths.put_silt.Goals as goal

pub returns-then-tried-lt-ENDLESS : goal.returns-then-tried-lt-ENDLESS
unfolding silt_line
returns-then-tried-lt-ENDLESS c = rw (lt-ltb _ _ c.if-tried-lt-ENDLESS.true) (put_on c.put_numbers-end.ensures.0 (c.put.ensures.put (omega (arith, c.requires, c.put_numbers-end.ensures.1))) (omega (arith, c.requires, c.put_numbers-end.ensures.1)), omega (arith, c.put_numbers-end.ensures.1, (c.put.ensures.bound (omega (arith, c.requires, c.put_numbers-end.ensures.1)))))
