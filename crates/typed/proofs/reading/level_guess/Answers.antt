-- `typed::reading::level_guess` meets its contract: the code asks what the definition asks, of the same two texts.
use mathlib.Core.Path.{sym, ◌∙◌}
use borrow.Author.Rules.{part_to_end}
use Rattle.typed.specs.Rows.{bytes_of}
use Rattle.typed.specs.Reading.{level_guess}
use Rattle.typed.proofs.reading.Standing.{no_longer}
use Rattle.typed.proofs.reading.level_guess.Goals as goal

pub returns-then-not-begins_with : goal.returns-then-not-begins_with
unfolding level_guess
returns-then-not-begins_with c = rw (sym c.begins_with.ensures ∙ c.if-not-begins_with.true)

pub slice_bounds-digits_read-count : goal.slice_bounds-digits_read-count
slice_bounds-digits_read-count c = no_longer (bytes_of "given -") c.args.bytes.now (sym c.begins_with-2.ensures ∙ c.if-begins_with.true)

pub slice_bounds-digits_read-start : goal.slice_bounds-digits_read-start
slice_bounds-digits_read-start c = no_longer (bytes_of "given -") c.args.bytes.now (sym c.begins_with-2.ensures ∙ c.if-begins_with.true)

pub slice_bounds-digits_read-count-2 : goal.slice_bounds-digits_read-count-2
slice_bounds-digits_read-count-2 c = no_longer (bytes_of "given ") c.args.bytes.now (sym c.begins_with.ensures ∙ c.if-not-begins_with.false)

pub slice_bounds-digits_read-start-2 : goal.slice_bounds-digits_read-start-2
slice_bounds-digits_read-start-2 c = no_longer (bytes_of "given ") c.args.bytes.now (sym c.begins_with.ensures ∙ c.if-not-begins_with.false)

pub returns-then-begins_with : goal.returns-then-begins_with
unfolding level_guess
returns-then-begins_with c =
    let read = rw (part_to_end c.args.bytes.now 7) at c.digits_read.ensures.0 in
    rw (sym c.begins_with.ensures ∙ c.if-not-begins_with.false, sym c.begins_with-2.ensures ∙ c.if-begins_with.true, ← read) c.below_zero.ensures

pub returns : goal.returns
unfolding level_guess
returns c =
    let read = rw (part_to_end c.args.bytes.now 6) at c.digits_read-2.ensures.0 in
    rw (sym c.begins_with.ensures ∙ c.if-not-begins_with.false, sym c.begins_with-2.ensures ∙ c.if-begins_with.false, ← read)
