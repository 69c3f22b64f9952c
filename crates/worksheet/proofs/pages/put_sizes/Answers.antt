-- `worksheet::pages::put_sizes` meets its contract: the depth, and then what is sized by it.
use native.Mathlib.Omega.{arith}
use Rattle.lines.proofs.putting.Placing.{put_on}
use Rattle.worksheet.specs.Pages.{sizes_text}
use Rattle.worksheet.proofs.pages.put_sizes.Goals as goal

pub returns : goal.returns
unfolding sizes_text
returns c = let enough = c.requires in let put-depth-end = c.put_depth-depth.ensures.1 in let put-sized-by-end = c.put_sized_by.ensures.1 in let depth = rw c.depth_stretch-stretch.ensures at c.put_depth-depth.ensures.0 in let sized = rw (c.entries_for.ensures, c.work_depth.ensures, c.depth_stretch-stretch.ensures) at c.put_sized_by.ensures.0 in (put_on depth sized (omega arith), omega arith)
