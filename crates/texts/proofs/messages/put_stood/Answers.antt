-- `texts::messages::put_stood` meets its contract: that the text ends, or the line between quotes.
use native.Mathlib.Omega.{arith}
use Rattle.texts.specs.Messages.{stood_text}
use Rattle.texts.proofs.messages.Parts.{same_part}
use Rattle.texts.proofs.messages.put_stood.Goals as goal

pub returns-then-place : goal.returns-then-place
unfolding stood_text
returns-then-place c = rw c.if-place.true ((c.put.ensures.put (omega arith)), omega arith)

pub returns : goal.returns
unfolding stood_text
returns c =
    let a = c.args in
    let stood = rw (c.min-start.ensures, c.min-end.ensures, same_part a.text.now a.place.start a.place.end) at c.put_quoted.ensures.0 in
    rw c.if-place.false (stood, omega arith)
