-- `worksheet::pages::put_whole` meets its contract: the head, the body and the end, one behind another.
use native.Mathlib.Omega.{arith}
use Rattle.lines.proofs.putting.Placing.{put_on}
use Rattle.worksheet.specs.Pages.{page_text}
use Rattle.worksheet.proofs.pages.put_whole.Goals as goal

pub returns : goal.returns
unfolding page_text
returns c = let enough = c.requires in let put-head-end = c.put_head-head.ensures.1 in let put-body-end = c.put_body-body.ensures.1 in let put-end-end = c.put_end.ensures.1 in let body = rw (c.read.ensures, c.design_at-answer.ensures) at c.put_body-body.ensures.0 in put_on (put_on c.put_head-head.ensures.0 body (omega arith)) c.put_end.ensures.0 (omega arith)
