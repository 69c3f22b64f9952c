-- `worksheet::classes::put_classes` meets its contract: the three lines, one behind another.
use native.Mathlib.Omega.{arith}
use mir.Facts.{to_z-of_z}
use mir.Syntax.{w32}
use mir.Val.{SFits}
use Rattle.lines.proofs.putting.Placing.{put_on}
use Rattle.worksheet.specs.Classes.{classes_part}
use Rattle.worksheet.proofs.classes.put_classes.Goals as goal

pub put-requires : goal.put-requires
put-requires c = omega (arith, c.requires, c.put-ship.ensures.1, c.put-across.ensures.1)

pub returns : goal.returns
unfolding classes_part
returns c =
    let held : SFits w32 c.args.figures.width = record { sfits = c.struct_told-1.given.1.1.1.1.1.0.1 } in
    let ship = rw (c.class_figures.ensures, c.ship_limits.ensures) at c.put-ship.ensures.0 in
    let across = rw (c.class_figures-2.ensures, c.width_limits-limits.ensures, c.unsigned-width.ensures, to_z-of_z held) at c.put-across.ensures.0 in
    let deep = rw (c.class_figures-3.ensures, c.from.ensures, c.depth_limits-limits.ensures) at c.put.ensures.0 in
    let first = c.put-ship.ensures.1 in
    let second = c.put-across.ensures.1 in
    let room = c.requires in
    (put_on (put_on ship across (omega arith)) deep (omega arith), omega (arith, c.put.ensures.1))
