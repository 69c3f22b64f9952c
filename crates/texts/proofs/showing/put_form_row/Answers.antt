-- `texts::showing::put_form_row` meets its contract: what is expected behind a sign, and the line with a blank, each within its room.
use native.Mathlib.Omega.{arith}
use Rattle.lines.proofs.putting.Placing.{put_on}
use Rattle.texts.specs.Shown.{form_row}
use Rattle.texts.proofs.putting.Typed.{blank_stands, expected_stands}
use Rattle.texts.proofs.showing.put_form_row.Goals as goal

pub put-third-requires : goal.put-third-requires
put-third-requires c = let expected = expected_stands _ _ _ c.put_expected-second.ensures (omega arith) in omega arith

pub put-requires : goal.put-requires
put-requires c =
    let expected = expected_stands _ _ _ c.put_expected-second.ensures (omega arith) in
    let blank = blank_stands _ _ _ c.put_blank-end.ensures (omega arith) in
    omega arith

pub returns : goal.returns
unfolding form_row
returns c =
    let expected = expected_stands _ _ _ c.put_expected-second.ensures (omega arith) in
    let blank = blank_stands _ _ _ c.put_blank-end.ensures (omega arith) in (
      put_on (put_on (put_on (put_on (c.put-first.ensures.put (omega arith)) expected.0 (omega arith)) (c.put-third.ensures.put (omega arith)) (omega arith)) blank.0 (omega arith)) (c.put.ensures.put (omega arith)) (omega arith),
      omega arith,
    )
