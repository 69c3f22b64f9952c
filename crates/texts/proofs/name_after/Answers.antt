-- `texts::name_after` meets its contract. The loop's invariant: the name from here on is the name. The measure is what is left of the text.
use Prim.Native.Nat.{ℕ, ◌+◌}
use mathlib.Core.Path.{ap, sym, ◌∙◌}
use native.Mathlib.Omega.{arith}
use Rattle.texts.specs.Names.{span, name_after}
use Rattle.texts.proofs.meaning.Names.{name_at, name_end_lem, named}
use Rattle.texts.proofs.name_after.Goals as goal

pub loop-at-init : goal.loop-at-init
unfolding name_after
loop-at-init c = (omega arith, ap (name_at c.args.text.now) c.min-at.ensures)

pub returns-then-begins_sheet : goal.returns-then-begins_sheet
returns-then-begins_sheet c =
    let text = c.args.text.now in
    let l = c.loop-at in
    let end = c.line_end-end in
    let bare = c.bare_length-bare in
    let e = named text l.at end.result end.ensures.0 (omega arith) bare.result bare.ensures.0 bare.ensures.1 (omega arith) _ c.begins_sheet.ensures in
    (ap (λ (n : ℕ). span (l.at + n) (l.at + bare.result)) c.min.ensures ∙ sym (rw c.if-begins_sheet.true at e) ∙ l.invariant.1, (omega arith, omega arith))

pub loop-at-preserved : goal.loop-at-preserved
loop-at-preserved c =
    let text = c.args.text.now in
    let l = c.loop-at in
    let end = c.line_end-end in
    let bare = c.bare_length-bare in
    let e = named text l.at end.result end.ensures.0 (omega arith) bare.result bare.ensures.0 bare.ensures.1 (omega arith) _ c.begins_sheet.ensures in
    (omega arith, ap (name_at text) c.line_after-at.ensures ∙ sym (rw c.if-begins_sheet.false at e) ∙ l.invariant.1)

pub returns : goal.returns
returns c =
    let l = c.loop-at in
    (sym (name_end_lem c.args.text.now l.at c.loop-at-test.false) ∙ l.invariant.1, (omega arith, omega arith))

pub line_end-end-requires : goal.line_end-end-requires
line_end-end-requires c = c.loop-at.invariant.0
