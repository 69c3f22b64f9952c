-- `texts::cutting::begins_sheet` meets its contract: a line of five bytes is the word, a longer one begins with it and a space.
use borrow.Author.Tests.{eq-eqb, ne_eqb}
use Rattle.texts.specs.Cutting.{begins_sheet}
use Rattle.texts.proofs.cutting.begins_sheet.Goals as goal

pub returns-then-line-eq5 : goal.returns-then-line-eq5
unfolding begins_sheet
returns-then-line-eq5 c = rw (eq-eqb _ _ c.if-line-eq5.true) c.begins_with.ensures

pub returns : goal.returns
unfolding begins_sheet
returns c = rw (ne_eqb _ _ c.if-line-eq5.false) c.begins_with-2.ensures
