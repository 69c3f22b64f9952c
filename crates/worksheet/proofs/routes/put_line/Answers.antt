-- `worksheet::routes::put_line` meets its contract: the head of a new page, and the line.
use native.Mathlib.Omega.{arith}
use Rattle.lines.proofs.putting.Placing.{put_on}
use Rattle.worksheet.specs.Routes.{stretch_text}
use Rattle.worksheet.proofs.routes.put_line.Goals as goal

pub returns : goal.returns
unfolding stretch_text
returns c = (put_on c.put_new_page-line.ensures.0 c.put_by.ensures.0 (omega arith), omega arith)
