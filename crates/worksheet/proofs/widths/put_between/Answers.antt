-- `worksheet::widths::put_between` meets its contract: its two lines, one behind another.
use native.Mathlib.Omega.{arith}
use Rattle.lines.proofs.putting.Placing.{put_on}
use Rattle.worksheet.specs.Widths.{between_items}
use Rattle.worksheet.proofs.widths.put_between.Goals as goal

pub returns : goal.returns
unfolding between_items
returns c =
    let passing = rw c.passing_words.ensures at c.put_item-passing.ensures.0 in
    let traffic = rw c.traffic_words.ensures at c.put_item.ensures.0 in
    (put_on passing traffic (omega arith), omega arith)
