-- `worksheet::refusals::put_may_hold` meets its contract: the line of the least figure and that of the greatest.
use native.Mathlib.Omega.{arith}
use Rattle.lines.proofs.putting.Placing.{put_on}
use Rattle.worksheet.specs.Refusals.{may_hold}
use Rattle.worksheet.proofs.refusals.put_may_hold.Goals as goal

pub returns : goal.returns
unfolding may_hold
returns c =
    let least = put_on c.put_line-first.ensures.0 (c.put-second.ensures.put (omega arith)) (omega arith) in
    let greatest = put_on (put_on least c.put_line-last.ensures.0 (omega arith)) (c.put.ensures.put (omega arith)) (omega arith) in
    (rw (c.row_of_field-row.ensures.0, c.values_of_field-values.ensures) at greatest, omega arith)
