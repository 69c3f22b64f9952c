-- One sheet more is put, and at the end none is left.
use mathlib.Core.Path.{ap, ◌∙◌}
use mathlib.Core.List.{List}
use Rattle.texts.specs.Shown.{sheet_bytes}
use Rattle.texts.specs.declared.Found.{Found}
use Rattle.channel.specs.Output.{with_lines}
use Rattle.channel.specs.Typing.{lines_at, bytes_of_sheets}
use Rattle.channel.proofs.Faults.{asked_over, fewer_left, sheet_put, sheets_put, all_left}
use Rattle.channel.proofs.typing.put_sheets.Goals as goal

pub loop-rt-init : goal.loop-rt-init
loop-rt-init c =
    let a = c.args in
    ap (λ (all : List Found). with_lines sheet_bytes (bytes_of_sheets all) (record { at = 0; buffer = a.buffer.now })) (all_left a.text.now _ c.begin-now.ensures)

pub returns-then-is_none : goal.returns-then-is_none
returns-then-is_none c =
    let l = c.loop-rt in
    sheets_put c.args.text.now l.now c.next-found.result c.next-found.ensures (lines_at l.out l.buffer) (asked_over _ _ c.is_none.ensures ∙ c.if-is_none.true)
    ∙ l.invariant

pub loop-rt-smaller : goal.loop-rt-smaller
loop-rt-smaller c = fewer_left c.args.text.now c.loop-rt.now c.next-found.result c.next-found.ensures (asked_over _ _ c.is_none.ensures ∙ c.if-is_none.false)

pub loop-rt-preserved : goal.loop-rt-preserved
loop-rt-preserved c =
    let l = c.loop-rt in
    sheet_put c.args.text.now l.now c.next-found.result c.next-found.ensures (lines_at l.out l.buffer) _
    (asked_over _ _ c.is_none.ensures ∙ c.if-is_none.false) c.put_found-out.ensures
    ∙ l.invariant
