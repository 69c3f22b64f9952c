-- `worksheet::depths::put_unusable` meets its contract: each arm puts the line of its fault.
use native.Mathlib.Omega.{arith}
use Rattle.lines.proofs.putting.Placing.{put_on}
use Rattle.worksheet.proofs.depths.put_unusable.Goals as goal

pub returns-in-NoSquatEntry : goal.returns-in-NoSquatEntry
returns-in-NoSquatEntry c = rw c.in-NoSquatEntry.is (rw (c.letter.ensures, c.from.ensures) at c.put.ensures.0, omega (arith, c.put.ensures.1))

pub returns-in-CutOver : goal.returns-in-CutOver
returns-in-CutOver c = rw c.in-CutOver.is (put_on c.put_numbers-end.ensures.0 (c.put-in-CutOver.ensures.put (omega (arith, c.requires, c.put_numbers-end.ensures.1))) (omega (arith, c.requires, c.put_numbers-end.ensures.1)), omega (arith, c.put_numbers-end.ensures.1, (c.put-in-CutOver.ensures.bound (omega (arith, c.requires, c.put_numbers-end.ensures.1)))))
