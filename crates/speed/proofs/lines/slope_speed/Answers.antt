-- `speed::lines::slope_speed` meets its contract: its neighbours are the rows of two slopes.
use mathlib.Core.Path.{◌≡◌}
use Prim.Native.Nat.{◌+◌, ◌/◌, ◌≤◌}
use native.Mathlib.Omega.{arith}
use borrow.Author.Rules.{rules}
use Rattle.speed.specs.Lines.{parts_of, straight}
use Rattle.speed.specs.Table.{full_row}
use Rattle.speed.specs.Critical.{row_speed}
use Rattle.speed.proofs.lines.Sizes.{weighed_within}
use Rattle.speed.proofs.lines.slope_speed.Goals as goal

pub returns : goal.returns
unfolding straight
returns c =
    let (here, next, near, far, is) = c.straight_line.ensures in
    let at-here : (here ≡ row_speed (full_row c.args.width (c.args.slope / 4)) c.args.depth) × (parts_of here ≤ 25500) = search rules in
    let at-next : (next ≡ row_speed (full_row c.args.width (c.args.slope / 4 + 1)) c.args.depth) × (parts_of next ≤ 25500) = search rules in
    record {
      value = rw (is, at-here.0, at-next.0);
      small = weighed_within _ _ 25500 102000 _ _ _ is at-here.1 at-next.1 (omega arith);
    }
