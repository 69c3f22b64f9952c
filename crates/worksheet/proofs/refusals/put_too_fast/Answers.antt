-- `worksheet::refusals::put_too_fast` meets its contract: the hundredths, or nothing.
use native.Mathlib.Omega.{arith}
use Rattle.lines.proofs.putting.Placing.{put_none}
use Rattle.worksheet.proofs.refusals.put_too_fast.Goals as goal

pub returns-in_default : goal.returns-in_default
returns-in_default c = rw c.in_default.is (put_none, omega arith)

pub returns : goal.returns
returns c = rw c.in-Some.is (rw c.from.ensures at c.put.ensures.0, omega (arith, c.put.ensures.1))
