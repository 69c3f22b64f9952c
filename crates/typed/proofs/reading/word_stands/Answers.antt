-- `typed::reading::word_stands` meets its contract: what stands before the first space of its place is the word.
use mathlib.Core.Path.{sym, ◌∙◌}
use borrow.Author.Tests.{eqb-true, eqb-false}
use Rattle.typed.proofs.reading.Printed.{no_word, word_by}
use Rattle.typed.proofs.reading.word_stands.Goals as goal

pub returns-then-is_empty : goal.returns-then-is_empty
returns-then-is_empty c =
    let a = c.args in
    no_word a.words a.bytes.now a.j c.token-word.ensures.0 (eqb-true _ _ (sym c.is_empty.ensures ∙ c.if-is_empty.true))

pub returns : goal.returns
returns c =
    let a = c.args in
    word_by a.words a.bytes.now a.j c.token-word.ensures.0 (eqb-false _ _ (sym c.is_empty.ensures ∙ c.if-is_empty.false)) c.begins_with.ensures
