-- `texts::showing::put_form_rows` meets its contract. The loop's invariant: the rows passed stand behind the head.
use mathlib.Core.Path.{refl}
use mathlib.Core.List.{[]}
use native.Mathlib.Omega.{arith}
use Rattle.lines.proofs.putting.Placing.{put_none, put_on}
use Rattle.texts.specs.Shown.{form_rows, form_text}
use Rattle.texts.proofs.showing.Rows.{one_rowed, all_rowed}
use Rattle.texts.proofs.showing.put_form_rows.Goals as goal

pub loop-i-init : goal.loop-i-init
loop-i-init c = (omega arith, record { text = []; left = refl; holds = put_none })

pub loop-i-preserved : goal.loop-i-preserved
unfolding form_rows
loop-i-preserved c =
    let l = c.loop-i in
    (omega arith, one_rowed l.invariant.1 (omega arith) (λ most. refl) c.put_form_row-end.ensures.0 (omega arith))

pub returns : goal.returns
unfolding form_rows form_text
returns c = put_on (c.put-end.ensures.put (omega arith)) (all_rowed c.loop-i.invariant.1 (omega arith) refl) (omega arith)
