-- `texts::next` meets its contract. The loop's invariant: what is found from here on is what is found. The measure is what is left of the text.
use mathlib.Core.Path.{refl, ap, sym, ◌∙◌}
use native.Mathlib.Omega.{arith}
use Rattle.texts.specs.Texts.{happened_in, next_of}
use Rattle.texts.specs.declared.Found.{Found}
use Rattle.texts.proofs.meaning.Stepping.{is_happened, next_line, next_end}
use Rattle.texts.proofs.next.Goals as goal

pub returns-then-is_some : goal.returns-then-is_some
returns-then-is_some c =
    let text = c.args.text.now in
    let l = c.loop-now in
    let t = c.turn-found in
    let e = sym (ap (λ (f : Found). happened_in f.event) t.ensures.0) ∙ sym (is_happened _) ∙ sym c.is_some.ensures ∙ c.if-is_some.true in
    t.ensures.0 ∙ sym (rw e at (next_line text l.now (omega arith))) ∙ l.invariant

pub loop-now-preserved : goal.loop-now-preserved
loop-now-preserved c =
    let text = c.args.text.now in
    let l = c.loop-now in
    let t = c.turn-found in
    let e = sym (ap (λ (f : Found). happened_in f.event) t.ensures.0) ∙ sym (is_happened _) ∙ sym c.is_some.ensures ∙ c.if-is_some.false in
    ap (λ (f : Found). next_of text f.cursor) t.ensures.0 ∙ sym (rw e at (next_line text l.now (omega arith))) ∙ l.invariant

pub returns : goal.returns
returns c =
    let text = c.args.text.now in
    let l = c.loop-now in
    c.ended.ensures ∙ sym (next_end text l.now c.loop-now-test.false) ∙ l.invariant

pub loop-now-init : goal.loop-now-init
loop-now-init c = refl

pub turn-found-requires : goal.turn-found-requires
turn-found-requires c = c.loop-now-test.true
