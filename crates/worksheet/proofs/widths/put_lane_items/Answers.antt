-- `worksheet::widths::put_lane_items` meets its contract: its two lines, one behind another.
use native.Mathlib.Omega.{arith}
use Rattle.lines.proofs.putting.Placing.{put_on}
use Rattle.worksheet.specs.Widths.{lane_items}
use Rattle.worksheet.proofs.widths.put_lane_items.Goals as goal

pub returns : goal.returns
unfolding lane_items
returns c =
    let nine = rw (c.times_words.ensures, c.nine_tenths.ensures) at c.put_item-nine.ensures.0 in
    let banks = rw c.banks_words.ensures at c.put_item.ensures.0 in
    (put_on nine banks (omega arith), omega arith)
