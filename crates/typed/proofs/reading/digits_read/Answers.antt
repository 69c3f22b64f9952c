-- `typed::reading::digits_read` meets its contract. The loop's invariant: the digits that are left, behind the number so far, mean
-- what all do.
use mathlib.Core.Path.{refl, sym, ◌∙◌}
use native.Mathlib.Omega.{arith}
use Rattle.typed.proofs.reading.Digits.{digits_end, digits_stop, digits_over, digits_on, at_most_nine}
use Rattle.typed.proofs.reading.digits_read.Goals as goal

pub returns-then-not-in_number : goal.returns-then-not-in_number
returns-then-not-in_number c =
    let l = c.loop-byte in
    let off = sym c.in_number.ensures ∙ c.if-not-in_number.true in
    (sym (digits_stop l.value l.byte-index _ (omega arith) off) ∙ l.invariant.0, l.invariant.1)

pub returns-then-value-ge-CAP : goal.returns-then-value-ge-CAP
returns-then-value-ge-CAP c =
    let l = c.loop-byte in
    let on = sym c.in_number.ensures ∙ c.if-not-in_number.false in
    (sym (digits_over l.value l.byte-index _ (omega arith) on c.if-value-ge-CAP.true) ∙ l.invariant.0, omega arith)

pub digit_on-value-requires : goal.digit_on-value-requires
digit_on-value-requires c = (c.if-value-ge-CAP.false, at_most_nine _ (sym c.in_number.ensures ∙ c.if-not-in_number.false))

pub loop-byte-preserved : goal.loop-byte-preserved
loop-byte-preserved c =
    let l = c.loop-byte in
    let on = sym c.in_number.ensures ∙ c.if-not-in_number.false in
    let d = c.digit_on-value.ensures in
    (rw d.0 (sym (digits_on l.value l.byte-index _ (omega arith) on c.if-value-ge-CAP.false) ∙ l.invariant.0), d.1)

pub returns : goal.returns
returns c =
    let l = c.loop-byte in
    (sym (digits_end l.value l.byte-index _ (omega arith)) ∙ l.invariant.0, l.invariant.1)

pub loop-byte-init : goal.loop-byte-init
loop-byte-init c = (refl, omega arith)
