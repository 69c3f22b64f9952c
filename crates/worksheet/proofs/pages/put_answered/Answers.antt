-- `worksheet::pages::put_answered` meets its contract: its parts, one behind another.
use native.Mathlib.Omega.{arith}
use Rattle.lines.proofs.putting.Placing.{put_on}
use Rattle.worksheet.specs.Pages.{answered_parts}
use Rattle.worksheet.proofs.pages.put_answered.Goals as goal

pub returns : goal.returns
unfolding answered_parts
returns c = let enough = c.requires in let put-front-end = c.put_front-front.ensures.1 in let put-sizes-end = c.put_sizes-sizes.ensures.1 in let put-classes-end = c.put_classes.ensures.1 in (put_on (put_on c.put_front-front.ensures.0 c.put_sizes-sizes.ensures.0 (omega arith)) c.put_classes.ensures.0 (omega arith), omega arith)
