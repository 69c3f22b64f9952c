-- `worksheet::speeds::put_fastest` meets its contract: nine tenths of a speed where there is one, and else nothing.
use native.Mathlib.Omega.{arith}
use Rattle.lines.proofs.putting.Placing.{put_none}
use Rattle.worksheet.proofs.speeds.put_fastest.Goals as goal

pub returns-in_default : goal.returns-in_default
returns-in_default c = rw c.in_default.is (put_none, omega arith)

pub returns : goal.returns
returns c = rw c.in-Some.is (rw c.from.ensures at c.put.ensures.0, omega (arith, c.put.ensures.1))
