-- `worksheet::routes::put_answered` meets its contract: the figures of the stretch, in two texts.
use native.Mathlib.Omega.{arith}
use mathlib.Core.Path.{◌≡◌}
use borrow.Author.Rules.{rules}
use mir.Val.{to_z, of_z}
use mir.Facts.{to_z-of_z}
use mir.Syntax.{w32}
use Rattle.lines.proofs.putting.Placing.{put_on}
use Rattle.worksheet.specs.Routes.{answered_line}
use Rattle.worksheet.proofs.routes.put_answered.Goals as goal

pub put-requires : goal.put-requires
put-requires c = omega (arith, c.requires, c.put-front.ensures.1)

pub returns : goal.returns
unfolding answered_line
returns c =
    let f = c.args.figures in
    let datum : to_z w32 (of_z w32 f.datum.0) ≡ f.datum.0 = to_z-of_z {w = w32} (search rules) in
    let width : to_z w32 (of_z w32 f.width) ≡ f.width = to_z-of_z {w = w32} (search rules) in
    let widening : to_z w32 (of_z w32 f.widening) ≡ f.widening = to_z-of_z {w = w32} (search rules) in
    let line = put_on c.put-front.ensures.0 c.put.ensures.0 (omega (arith, c.requires, c.put-front.ensures.1)) in
    let filled = rw (c.level_figure.ensures, c.from.ensures, c.lane_count.ensures, c.from-2.ensures, datum, width, widening, c.from-3.ensures) at line in
    (filled, omega (arith, c.put-front.ensures.1, c.put.ensures.1))
