-- `worksheet::pages::put_no_speed` meets its contract: its parts, one behind another.
use native.Mathlib.Omega.{arith}
use Rattle.lines.proofs.putting.Placing.{put_on}
use Rattle.worksheet.specs.Pages.{no_speed_parts}
use Rattle.worksheet.proofs.pages.put_no_speed.Goals as goal

pub put_no_speed-requires : goal.put_no_speed-requires
put_no_speed-requires c = omega (arith, c.requires, c.put_front-front.ensures.1, c.put_sizes-sizes.ensures.1)

pub returns : goal.returns
unfolding no_speed_parts
returns c = let enough = c.requires in let put-front-end = c.put_front-front.ensures.1 in let put-sizes-end = c.put_sizes-sizes.ensures.1 in let put-no-speed-end = c.put_no_speed.ensures.1 in let sizes = rw (c.level_at-level.ensures, c.lanes_for-lanes.ensures) at c.put_sizes-sizes.ensures.0 in let refusal = rw (c.section_by-section.ensures, c.entries_for.ensures, c.work_depth-depth.ensures, c.depth_stretch.ensures, c.level_at-level.ensures, c.lanes_for-lanes.ensures) at c.put_no_speed.ensures.0 in (put_on (put_on c.put_front-front.ensures.0 sizes (omega arith)) refusal (omega arith), omega arith)
