-- `worksheet::widths::put_passing_items` meets its contract: nothing for one lane, two lines for two.
use native.Mathlib.Omega.{arith}
use Rattle.lines.proofs.putting.Placing.{put_none}
use Rattle.worksheet.specs.Widths.{between_items}
use Rattle.worksheet.proofs.widths.put_passing_items.Goals as goal

pub returns-in-One : goal.returns-in-One
returns-in-One c = rw c.in-One.is (put_none, omega arith)

pub returns-in-Two : goal.returns-in-Two
unfolding between_items
returns-in-Two c =
    let put = c.put_between.ensures in
    rw c.in-Two.is (put.0, put.1)
