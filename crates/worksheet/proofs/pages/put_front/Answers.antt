-- `worksheet::pages::put_front` meets its contract: the two parts, one behind the other.
use native.Mathlib.Omega.{arith}
use Rattle.lines.proofs.putting.Placing.{put_on}
use Rattle.worksheet.specs.Pages.{front_text}
use Rattle.worksheet.proofs.pages.put_front.Goals as goal

pub returns : goal.returns
unfolding front_text
returns c = let enough = c.requires in let put-level-end = c.put_level-level.ensures.1 in let put-lanes-end = c.put_lanes.ensures.1 in (put_on c.put_level-level.ensures.0 c.put_lanes.ensures.0 (omega arith), omega arith)
