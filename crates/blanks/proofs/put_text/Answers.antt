-- `blanks::put_text` meets its contract. The loop's invariant: the text up to the bytes left stands with its blanks filled, and there is room for the rest.
use Rattle.std.proofs.Common.{refl, ap, length}
use native.Mathlib.Omega.{arith}
use Rattle.std.proofs.lemmas.List.{nil_from_length}
use Rattle.blanks.proofs.meaning.Filling.{none_filled, byte_filled, blank_filled, ends_in_blank, past_figures, all_filled}
use Rattle.blanks.proofs.put_text.Goals as goal

pub loop-byte-init : goal.loop-byte-init
loop-byte-init c = rw (c.iter-bytes.ensures.rest, c.iter-left.ensures.rest) (refl, omega arith, none_filled)

pub loop-byte-preserved-then-byte-ne-BLANK : goal.loop-byte-preserved-then-byte-ne-BLANK
loop-byte-preserved-then-byte-ne-BLANK c =
    let step = c.in-Some.ensures.steps in
    let one = ap length step in
    let f = rw step at c.loop-byte.invariant.2 in
    (omega arith, omega arith, byte_filled f c.if-byte-ne-BLANK.true (c.put_byte-end.ensures.put (omega arith)) (omega arith))

pub returns-in_default-next : goal.returns-in_default-next
returns-in_default-next c =
    let step = c.in-Some.ensures.steps in
    let none = nil_from_length _ c.in_default-next.ensures.steps.0 in
    let one = ap length step in
    (ends_in_blank (rw (step, none, c.if-byte-ne-BLANK.false) at c.loop-byte.invariant.2), omega arith)

pub loop-byte-preserved-in-Some-next-2 : goal.loop-byte-preserved-in-Some-next-2
loop-byte-preserved-in-Some-next-2 c =
    let step = c.in-Some.ensures.steps in
    let step-2 = c.in-Some-next.ensures.steps in
    let one = ap length step in
    let two = ap length step-2 in
    let f = rw (step, step-2, c.in-Some-next-2.ensures.steps, c.if-byte-ne-BLANK.false) at c.loop-byte.invariant.2 in
    (omega arith, omega arith, blank_filled f (rw c.width_of.ensures.0 at c.put_blank-end.ensures.0) (omega arith))

pub loop-byte-preserved : goal.loop-byte-preserved
loop-byte-preserved c =
    let step = c.in-Some.ensures.steps in
    let step-2 = c.in-Some-next.ensures.steps in
    let none = c.in_default-next-2.ensures.steps in
    let left = nil_from_length _ none.0 in
    let one = ap length step in
    let two = ap length step-2 in
    (c.loop-byte.invariant.0, omega arith, rw (none.1, left) (past_figures (rw (step, step-2, left, c.if-byte-ne-BLANK.false) at c.loop-byte.invariant.2)))

pub returns : goal.returns
returns c =
    let none = nil_from_length _ c.in_default.ensures.steps.0 in
    (all_filled (rw none at c.loop-byte.invariant.2), omega arith)
