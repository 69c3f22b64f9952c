-- `worksheet::widths::put_items` meets its contract: its parts, one behind another.
use native.Mathlib.Omega.{arith}
use Rattle.lines.proofs.putting.Placing.{put_on}
use Rattle.worksheet.specs.Widths.{items_text}
use Rattle.worksheet.proofs.widths.put_items.Goals as goal

pub returns : goal.returns
unfolding items_text
returns c =
    let ship = c.put_ship_items-ship.ensures.0 in
    let bed = c.put_bed_items-bed.ensures.0 in
    let lane = c.put_lane_items-lane.ensures.0 in
    let passing = c.put_passing_items.ensures.0 in
    (put_on (put_on (put_on ship bed (omega arith)) lane (omega arith)) passing (omega arith), omega arith)
