-- `worksheet::pages::put_sized` meets its contract: the three parts, one behind another.
use native.Mathlib.Omega.{arith}
use Rattle.lines.proofs.putting.Placing.{put_on}
use Rattle.worksheet.specs.Pages.{sized_text}
use Rattle.worksheet.proofs.pages.put_sized.Goals as goal

pub returns : goal.returns
unfolding sized_text
returns c = let enough = c.requires in let put-width-end = c.put_width-across.ensures.1 in let put-bend-end = c.put_bend-bend.ensures.1 in let put-speed-end = c.put_speed.ensures.1 in let across = rw c.width_stretch.ensures at c.put_width-across.ensures.0 in let speed = rw c.section_for-section.ensures at c.put_speed.ensures.0 in (put_on (put_on across c.put_bend-bend.ensures.0 (omega arith)) speed (omega arith), omega arith)
