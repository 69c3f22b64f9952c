-- `worksheet::items::put_item` meets its contract: its first bytes, then its words and figures; the product of the figures fits 64 bits.
use native.Mathlib.Omega.{arith}
use Rattle.lines.proofs.putting.Placing.{put_on}
use Rattle.worksheet.specs.Items.{item_line}
use Rattle.worksheet.proofs.items.put_item.Goals as goal

pub returns : goal.returns
unfolding item_line
returns c =
    let figures = rw c.from.ensures at c.put_worded.ensures.0 in
    (put_on (c.put-middle.ensures.put (omega arith)) figures (omega arith), omega arith)
