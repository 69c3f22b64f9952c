-- `worksheet::pages::put_sized_by` meets its contract: by what was found.
use native.Mathlib.Omega.{arith}
use Rattle.lines.proofs.putting.Placing.{put_none}
use Rattle.worksheet.proofs.pages.put_sized_by.Goals as goal

pub returns-in_default : goal.returns-in_default
returns-in_default c = rw (c.in_default.is-0, c.in_default.is-1) (put_none, omega arith)

pub returns-in_default-2 : goal.returns-in_default-2
returns-in_default-2 c = rw c.in_default.is-0 (put_none, omega arith)
