-- `worksheet::refusals::put_silt` meets its contract: by whether the silt has an end.
use native.Mathlib.Omega.{arith}
use borrow.Author.Tests.{lt-ltb, le-ltb}
use Rattle.worksheet.specs.Refusals.{silt_text}
use Rattle.worksheet.proofs.refusals.put_silt.Goals as goal

pub returns-then-last-lt-ENDLESS : goal.returns-then-last-lt-ENDLESS
unfolding silt_text
returns-then-last-lt-ENDLESS c = rw (lt-ltb _ _ c.if-last-lt-ENDLESS.true) (rw c.letter.ensures at c.put.ensures.0, omega (arith, c.put.ensures.1))

pub returns : goal.returns
unfolding silt_text
returns c = rw (le-ltb _ _ c.if-last-lt-ENDLESS.false) (c.put-2.ensures.0, omega (arith, c.put-2.ensures.1))
