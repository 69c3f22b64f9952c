-- `typed::reading::read_row` meets its contract: what is printed, up to where it is printed, is what the definition compares.
use mathlib.Core.Path.{sym, ◌∙◌}
use native.Mathlib.Omega.{arith}
use borrow.Author.Tests.{not-true, not-false}
use Rattle.typed.proofs.reading.Printed.{no_name, name_within, no_figure, no_unit, figure_read}
use Rattle.typed.proofs.reading.Standing.{same_is}
use Rattle.typed.proofs.reading.read_row.Goals as goal

pub returns-then-not-begins_with : goal.returns-then-not-begins_with
returns-then-not-begins_with c =
    no_name _ _ c.put_name-name.ensures.0 (omega arith) c.begins_with.ensures (c.if-not-begins_with.true)

pub slice_bounds-guess-count : goal.slice_bounds-guess-count
slice_bounds-guess-count c =
    let row = c.args.row in
    name_within row _ c.put_name-name.ensures.0 (omega arith) c.begins_with.ensures (c.if-not-begins_with.false)

pub slice_bounds-guess-start : goal.slice_bounds-guess-start
slice_bounds-guess-start c =
    let row = c.args.row in
    name_within row _ c.put_name-name.ensures.0 (omega arith) c.begins_with.ensures (c.if-not-begins_with.false)

pub returns-then-not-begins_with-2 : goal.returns-then-not-begins_with-2
returns-then-not-begins_with-2 c =
    no_figure _ _ c.put_name-name.ensures.0 (omega arith) c.begins_with.ensures (c.if-not-begins_with.false)
    c.guess-figure.ensures c.put_figure-front.ensures.0 (omega arith) c.begins_with-2.ensures (c.if-not-begins_with-2.true)

pub returns-then-ne : goal.returns-then-ne
returns-then-ne c =
    no_unit _ _ c.put_name-name.ensures.0 (omega arith) c.begins_with.ensures (c.if-not-begins_with.false)
    c.guess-figure.ensures c.put_figure-front.ensures.0 (omega arith) c.begins_with-2.ensures (c.if-not-begins_with-2.false)
    c.put_unit-end.ensures.0 (omega arith) (same_is _ _) (not-true _ (sym c.ne.ensures ∙ c.if-ne.true))

pub returns : goal.returns
returns c =
    figure_read _ _ c.put_name-name.ensures.0 (omega arith) c.begins_with.ensures (c.if-not-begins_with.false)
    c.guess-figure.ensures c.put_figure-front.ensures.0 (omega arith) c.begins_with-2.ensures (c.if-not-begins_with-2.false)
    c.put_unit-end.ensures.0 (omega arith) (same_is _ _) (not-false _ (sym c.ne.ensures ∙ c.if-ne.false))
