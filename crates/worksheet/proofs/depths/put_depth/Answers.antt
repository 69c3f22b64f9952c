-- `worksheet::depths::put_depth` meets its contract: the head, the tries and the cut, one behind another.
use native.Mathlib.Omega.{arith}
use Rattle.lines.proofs.putting.Placing.{put_on}
use Rattle.worksheet.specs.Depths.{depth_part}
use Rattle.worksheet.proofs.depths.put_depth.Goals as goal

pub returns : goal.returns
unfolding depth_part
returns c =
    let room = c.requires in
    let head = c.put_head-head.ensures in
    let tries = c.put_tries-tries.ensures in
    let cut = c.put_cut.ensures in
    let front = put_on head.0 (rw c.fill_worksheet.ensures at tries.0) (omega arith) in
    (put_on front (rw c.work_depth.ensures at cut.0) (omega arith), omega arith)
