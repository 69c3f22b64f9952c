-- `worksheet::pages::put_no_width` meets its contract: its parts, one behind another.
use native.Mathlib.Omega.{arith}
use Rattle.lines.proofs.putting.Placing.{put_on}
use Rattle.worksheet.specs.Pages.{no_width_parts}
use Rattle.worksheet.proofs.pages.put_no_width.Goals as goal

pub returns : goal.returns
unfolding no_width_parts
returns c = let enough = c.requires in let put-front-end = c.put_front-front.ensures.1 in let put-bend-end = c.put_bend-bend.ensures.1 in let put-no-width-end = c.put_no_width.ensures.1 in let bend = rw c.lanes_for.ensures at c.put_bend-bend.ensures.0 in let refusal = rw c.least_radius-least.ensures at c.put_no_width.ensures.0 in (put_on (put_on c.put_front-front.ensures.0 bend (omega arith)) refusal (omega arith), omega arith)
