-- `worksheet::pages::put_refused` meets its contract: bytes that are no sheet put nothing here.
use native.Mathlib.Omega.{arith}
use Rattle.lines.proofs.putting.Placing.{put_none}
use Rattle.worksheet.proofs.pages.put_refused.Goals as goal

pub returns-in-NoSheet : goal.returns-in-NoSheet
returns-in-NoSheet c = rw c.in-NoSheet.is (put_none, omega arith)
