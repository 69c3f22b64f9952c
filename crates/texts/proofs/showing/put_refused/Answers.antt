-- `texts::showing::put_refused` meets its contract: the word, the number, a space, the field and the newline, one behind another.
use native.Mathlib.Omega.{arith}
use Rattle.lines.proofs.putting.Placing.{put_on}
use Rattle.texts.specs.Shown.{refused_text}
use Rattle.texts.proofs.showing.put_refused.Goals as goal

pub returns : goal.returns
unfolding refused_text
returns c =
    let number = rw c.number.ensures at (c.put_count-space.ensures.put (omega arith)) in
    let field = rw c.field.ensures at (c.put_count-end.ensures.put (omega arith)) in
    put_on
    (put_on (put_on (put_on (c.put-number.ensures.put (omega arith)) number (omega arith)) (c.put-field.ensures.put (omega arith)) (omega arith)) field (omega arith))
    (c.put.ensures.put (omega arith)) (omega arith)
