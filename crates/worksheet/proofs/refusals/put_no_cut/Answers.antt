-- `worksheet::refusals::put_no_cut` meets its contract: each arm puts the text of its fault.
use native.Mathlib.Omega.{arith}
use Rattle.worksheet.proofs.refusals.put_no_cut.Goals as goal

pub returns-in-NoSquatEntry : goal.returns-in-NoSquatEntry
returns-in-NoSquatEntry c = rw c.in-NoSquatEntry.is (rw (c.letter.ensures, c.from.ensures, c.fastest_entry.ensures, c.from-in-NoSquatEntry.ensures) at c.put.ensures.0, omega (arith, c.put.ensures.1))

pub returns-in-CutOver : goal.returns-in-CutOver
returns-in-CutOver c = rw c.in-CutOver.is (rw c.letter-in-CutOver.ensures at c.put-in-CutOver.ensures.0, omega (arith, c.put-in-CutOver.ensures.1))
