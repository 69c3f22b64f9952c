-- `speed::lines::row_speed` meets its contract: its neighbours are the points of two whole metres.
use mathlib.Core.Path.{◌≡◌}
use Prim.Native.Nat.{◌+◌, ◌/◌, ◌≤◌}
use native.Mathlib.Omega.{arith}
use borrow.Author.Rules.{rules}
use Rattle.speed.specs.Lines.{parts_of, straight}
use Rattle.speed.specs.Table.{point_of}
use Rattle.speed.proofs.lines.Sizes.{weighed_within}
use Rattle.speed.proofs.lines.row_speed.Goals as goal

pub returns : goal.returns
unfolding straight
returns c =
    let (here, next, near, far, is) = c.straight_line.ensures in
    let at-here : (here ≡ point_of c.args.row (c.args.depth / 100)) × (parts_of here ≤ 255) = search rules in
    let at-next : (next ≡ point_of c.args.row (c.args.depth / 100 + 1)) × (parts_of next ≤ 255) = search rules in
    record {
      value = rw (is, at-here.0, at-next.0);
      small = weighed_within _ _ 255 25500 _ _ _ is at-here.1 at-next.1 (omega arith);
    }
