-- `speed::full_speed` meets its contract: its neighbours are the speeds of two widths.
use mathlib.Core.Path.{◌≡◌}
use Prim.Native.Nat.{◌+◌, ◌/◌, ◌≤◌}
use native.Mathlib.Omega.{arith}
use borrow.Author.Rules.{rules}
use Rattle.speed.specs.Lines.{parts_of, straight}
use Rattle.speed.specs.Critical.{slope_speed}
use Rattle.speed.proofs.lines.Sizes.{weighed_within}
use Rattle.speed.proofs.full_speed.Goals as goal

pub returns : goal.returns
unfolding straight
returns c =
    let (here, next, near, far, is) = c.straight_line.ensures in
    let at-here : (here ≡ slope_speed (c.args.width / 5000) c.args.slope c.args.depth.0) × (parts_of here ≤ 102000) = search rules in
    let at-next : (next ≡ slope_speed (c.args.width / 5000 + 1) c.args.slope c.args.depth.0) × (parts_of next ≤ 102000) = search rules in
    record {
      value = rw (is, at-here.0, at-next.0);
      small = weighed_within _ _ 102000 510000000 _ _ _ is at-here.1 at-next.1 (omega arith);
    }
