-- `worksheet::pages::put_no_level` meets its contract: the level, and then the refusal.
use native.Mathlib.Omega.{arith}
use Rattle.lines.proofs.putting.Placing.{put_on}
use Rattle.worksheet.specs.Pages.{no_level_parts}
use Rattle.worksheet.proofs.pages.put_no_level.Goals as goal

pub returns : goal.returns
unfolding no_level_parts
returns c = let enough = c.requires in let put-level-end = c.put_level-level.ensures.1 in let put-no-level-end = c.put_no_level.ensures.1 in (put_on c.put_level-level.ensures.0 c.put_no_level.ensures.0 (omega arith), omega arith)
