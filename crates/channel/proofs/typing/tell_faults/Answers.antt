-- One event more, and at the end none is left.
use mathlib.Core.Path.{ap, ◌∙◌}
use Rattle.channel.specs.Typing.{any_fault}
use Rattle.channel.proofs.Faults.{asked_over, fewer_left, fault_told, all_told, all_left}
use Rattle.channel.proofs.typing.tell_faults.Goals as goal

pub loop-rt-init : goal.loop-rt-init
loop-rt-init c = ap any_fault (all_left c.args.text.now _ c.begin-now.ensures)

pub returns-then-is_none : goal.returns-then-is_none
returns-then-is_none c =
    let l = c.loop-rt in
    all_told c.args.text.now l.now c.next-found.result c.next-found.ensures l.told (asked_over _ _ c.is_none.ensures ∙ c.if-is_none.true) ∙ l.invariant

pub loop-rt-smaller : goal.loop-rt-smaller
loop-rt-smaller c = fewer_left c.args.text.now c.loop-rt.now c.next-found.result c.next-found.ensures (asked_over _ _ c.is_none.ensures ∙ c.if-is_none.false)

pub loop-rt-preserved : goal.loop-rt-preserved
loop-rt-preserved c =
    let l = c.loop-rt in
    fault_told c.args.text.now l.now c.next-found.result c.next-found.ensures l.told _
    (asked_over _ _ c.is_none.ensures ∙ c.if-is_none.false) (rw c.tell_found-told.ensures)
    ∙ l.invariant
