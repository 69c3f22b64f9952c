-- `texts::showing::put_rows` meets its contract. The loop's invariant: the lines of the rows passed stand.
use mathlib.Core.Path.{refl}
use mathlib.Core.List.{[]}
use native.Mathlib.Omega.{arith}
use Rattle.lines.proofs.putting.Placing.{put_none}
use Rattle.texts.specs.Shown.{rows_text}
use Rattle.texts.proofs.showing.Rows.{one_rowed, all_rowed}
use Rattle.texts.proofs.showing.put_rows.Goals as goal

pub loop-i-init : goal.loop-i-init
loop-i-init c = (omega arith, record { text = []; left = refl; holds = put_none })

pub loop-i-preserved : goal.loop-i-preserved
unfolding rows_text
loop-i-preserved c =
    let l = c.loop-i in
    let p = rw c.row_figure.ensures at c.put_row-end.ensures.0 in
    (omega arith, one_rowed l.invariant.1 (omega arith) (λ most. refl) p (omega arith))

pub returns : goal.returns
unfolding rows_text
returns c = all_rowed c.loop-i.invariant.1 (omega arith) refl

pub put_row-end-requires : goal.put_row-end-requires
put_row-end-requires c = (omega arith, omega arith)
