-- `texts::steps::turn` meets its contract: the line up to its end, and what it brings.
use mathlib.Core.Path.{refl, sym}
use native.Mathlib.Omega.{arith}
use lib.Seq.{length-take-le}
use Rattle.texts.proofs.steps.Turning.{turned}
use Rattle.texts.proofs.steps.turn.Goals as goal

pub returns : goal.returns
returns c =
    let a = c.args in
    let end = c.line_end-end in
    let bare = c.bare_length-bare in (
      turned a.text.now a.cursor.at end.result end.ensures.0 a.cursor bare.result c.next_number-number.result c.line_after.result
          c.line_step-step.result refl bare.ensures.0 bare.ensures.1 c.line_step-step.ensures c.next_number-number.ensures c.line_after.ensures,
      omega arith,
    )

pub slice_bounds-line_step-end : goal.slice_bounds-line_step-end
slice_bounds-line_step-end c = sym (length-take-le _ _ c.bare_length-bare.ensures.2)
