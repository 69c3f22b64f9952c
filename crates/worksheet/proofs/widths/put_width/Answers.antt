-- `worksheet::widths::put_width` meets its contract: its head, its items and its sum, one behind another.
use native.Mathlib.Omega.{arith}
use Rattle.lines.proofs.putting.Placing.{put_on}
use Rattle.worksheet.specs.Widths.{width_part}
use Rattle.worksheet.proofs.widths.put_width.Goals as goal

pub returns : goal.returns
unfolding width_part
returns c =
    let items = c.items_of-items.ensures in
    let head = c.put_head-head.ensures.0 in
    let all = rw items at c.put_items-all.ensures.0 in
    let sum = rw items at c.put_sum.ensures.0 in
    (put_on (put_on head all (omega arith)) sum (omega arith), omega arith)
