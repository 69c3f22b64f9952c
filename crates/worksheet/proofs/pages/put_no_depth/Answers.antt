-- `worksheet::pages::put_no_depth` meets its contract: its parts, one behind another.
use native.Mathlib.Omega.{arith}
use Rattle.lines.proofs.putting.Placing.{put_on}
use Rattle.worksheet.specs.Pages.{no_depth_parts}
use Rattle.worksheet.proofs.pages.put_no_depth.Goals as goal

pub returns : goal.returns
unfolding no_depth_parts
returns c = let enough = c.requires in let put-front-end = c.put_front-front.ensures.1 in let put-depth-end = c.put_depth-depth.ensures.1 in let put-bend-end = c.put_bend-bend.ensures.1 in let put-no-depth-end = c.put_no_depth.ensures.1 in let depth = rw (c.depth_stretch-stretch.ensures, c.level_at-level.ensures, c.lanes_for-lanes.ensures) at c.put_depth-depth.ensures.0 in let bend = rw c.lanes_for-lanes.ensures at c.put_bend-bend.ensures.0 in let refusal = rw (c.depth_stretch-stretch.ensures, c.level_at-level.ensures, c.lanes_for-lanes.ensures) at c.put_no_depth.ensures.0 in (put_on (put_on (put_on c.put_front-front.ensures.0 depth (omega arith)) bend (omega arith)) refusal (omega arith), omega arith)
