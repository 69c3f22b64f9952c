-- One sheet more is put, and at the end none is left.
use mathlib.Core.Path.{◌∙◌}
use Rattle.channel.specs.Worksheets.{progress}
use Rattle.channel.proofs.Bundles.{named_more, none_named, all_named}
use Rattle.channel.proofs.Faults.{asked_over, fewer_left}
use Rattle.channel.proofs.worksheets.Putting.put_typed.Goals as goal

pub loop-self-init : goal.loop-self-init
loop-self-init c =
    let a = c.args in
    all_named a.self.pass a.self.steps a.text.now _ (progress a.state a.buffer.now) c.begin-cursor.ensures

pub returns-then-is_none : goal.returns-then-is_none
returns-then-is_none c =
    let l = c.loop-self in
    let a = c.args in
    none_named a.self.pass a.self.steps a.text.now l.cursor c.next-found.result c.next-found.ensures (progress l.now l.buffer) (asked_over _ _ c.is_none.ensures ∙ c.if-is_none.true)
    ∙ l.invariant

pub loop-self-smaller : goal.loop-self-smaller
loop-self-smaller c = fewer_left c.args.text.now c.loop-self.cursor c.next-found.result c.next-found.ensures (asked_over _ _ c.is_none.ensures ∙ c.if-is_none.false)

pub loop-self-preserved : goal.loop-self-preserved
loop-self-preserved c =
    let l = c.loop-self in
    let a = c.args in
    named_more a.self.pass a.self.steps a.text.now l.cursor c.next-found.result c.next-found.ensures (progress l.now l.buffer) _
    (asked_over _ _ c.is_none.ensures ∙ c.if-is_none.false) c.put_named-now.ensures
    ∙ l.invariant
