-- `worksheet::pages::put_sheet` meets its contract: its rows, and then its parts.
use native.Mathlib.Omega.{arith}
use Rattle.lines.proofs.putting.Placing.{put_on}
use Rattle.worksheet.specs.Pages.{sheet_parts}
use Rattle.worksheet.proofs.pages.put_sheet.Goals as goal

pub returns : goal.returns
unfolding sheet_parts
returns c = let enough = c.requires in let put-rows-end = c.put_rows-rows.ensures.1 in let put-answer-end = c.put_answer.ensures.1 in let rows = rw c.figures_of.ensures at c.put_rows-rows.ensures.0 in (put_on rows c.put_answer.ensures.0 (omega arith), omega arith)
