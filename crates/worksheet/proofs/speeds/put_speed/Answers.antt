-- `worksheet::speeds::put_speed` meets its contract: nothing for a slope of 0, and else the parts and then nine tenths.
use native.Mathlib.Omega.{arith}
use borrow.Author.Tests.{eq-eqb, ne_eqb}
use Rattle.lines.proofs.putting.Placing.{put_none, put_on}
use Rattle.worksheet.specs.Speeds.{speed_part}
use Rattle.worksheet.proofs.speeds.put_speed.Goals as goal

pub returns-then-section-eq0 : goal.returns-then-section-eq0
unfolding speed_part
returns-then-section-eq0 c = rw (eq-eqb _ _ c.if-section-eq0.true) (put_none, omega arith)

pub returns : goal.returns
unfolding speed_part
returns c =
    let parts = rw c.parts_of-parts.ensures at c.put_parts-end.ensures.0 in
    let fastest = rw c.parts_of-parts.ensures at c.put_fastest.ensures.0 in
    rw (ne_eqb _ _ c.if-section-eq0.false) (put_on parts fastest (omega (arith, c.requires, c.put_parts-end.ensures.1)), omega (arith, c.put_parts-end.ensures.1, c.put_fastest.ensures.1))
