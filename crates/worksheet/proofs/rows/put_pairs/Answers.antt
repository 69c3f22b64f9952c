-- `worksheet::rows::put_pairs` meets its contract. The loop's invariant: the lines passed stand. The measure is the lines that are left.
use mathlib.Core.Path.{refl}
use mathlib.Core.List.{[]}
use native.Mathlib.Omega.{arith}
use Rattle.lines.proofs.putting.Placing.{put_none}
use Rattle.worksheet.specs.Rows.{pairs_text}
use Rattle.worksheet.proofs.Pairing.{one_lined, all_lined}
use Rattle.worksheet.proofs.rows.put_pairs.Goals as goal

pub loop-i-init : goal.loop-i-init
loop-i-init c = (omega arith, refl, omega arith, record { text = []; left = refl; holds = put_none })

pub loop-i-preserved : goal.loop-i-preserved
unfolding pairs_text
loop-i-preserved c =
    let l = c.loop-i in
    (omega arith, omega arith, omega arith, one_lined l.invariant.3 (omega arith) (λ most. refl) c.put_pair-end.ensures.0 (omega arith))

pub returns : goal.returns
unfolding pairs_text
returns c = (all_lined c.loop-i.invariant.3 (omega arith) refl, omega arith)

pub put_pair-end-requires : goal.put_pair-end-requires
put_pair-end-requires c = (omega arith, omega arith)
