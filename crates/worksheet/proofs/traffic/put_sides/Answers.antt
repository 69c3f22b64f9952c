-- `worksheet::traffic::put_sides` meets its contract: both sides, and then which is greater.
use native.Mathlib.Omega.{arith}
use Rattle.lines.proofs.putting.Placing.{put_on}
use Rattle.worksheet.specs.Traffic.{traffic_text}
use Rattle.worksheet.proofs.traffic.put_sides.Goals as goal

pub returns : goal.returns
unfolding traffic_text
returns c = (put_on c.put-both.ensures.0 c.put_greater.ensures.0 (omega (arith, c.requires, c.put-both.ensures.1)), omega (arith, c.put-both.ensures.1, c.put_greater.ensures.1))
