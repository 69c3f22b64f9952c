-- `worksheet::depths::put_cut` meets its contract: the three depths where there is a cut, and else nothing.
use mathlib.Core.Path.{◌≡◌}
use native.Mathlib.Omega.{arith}
use borrow.Author.Rules.{rules}
use mir.Facts.{to_z-of_z}
use mir.Syntax.{w32}
use mir.Val.{to_z, of_z}
use Rattle.lines.proofs.putting.Placing.{put_none}
use Rattle.worksheet.proofs.depths.put_cut.Goals as goal

pub returns-in_default : goal.returns-in_default
returns-in_default c = rw c.in_default.is (put_none, omega arith)

pub returns : goal.returns
returns c =
    let held : to_z w32 (of_z w32 c.datum_depth.result.0) ≡ c.datum_depth.result.0 = to_z-of_z {w = w32} (search rules) in
    rw c.in-Ok.is (rw (c.from.ensures, c.from-2.ensures, held, c.datum_depth.ensures) at c.put.ensures.0, omega (arith, c.put.ensures.1))
