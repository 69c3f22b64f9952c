-- `width::bends::widening` meets its contract: the fraction in its lowest terms, divided in two steps, is the definition's, and fits.
use mathlib.Core.Path.{◌∙◌}
use Prim.Native.Nat.{ℕ, ◌*◌, ◌≤◌, ◌<◌}
use native.Mathlib.Nat.{mul-le-mul}
use native.Mathlib.Omega.{arith}
use borrow.Author.Rules.{rules}
use Rattle.laws.specs.Rounding.{up}
use Rattle.lanes.proofs.Promises.{lanes_within}
use Rattle.laws.proofs.Rounding.{rounded_up}
use Rattle.width.proofs.bends.Products.{square_within, turned_within, ship_within, widening_within, widening_is}
use Rattle.width.proofs.bends.widening.Goals.{After-scaled}
use Rattle.width.proofs.bends.widening.Goals as goal

pub overflow_mul-ship-2 : goal.overflow_mul-ship-2
overflow_mul-ship-2 c = record { fits = omega (arith, square_within c.args.turn c.args.knots 0 (search rules) (search rules) (search rules)) }

pub overflow_mul-ship-3 : goal.overflow_mul-ship-3
overflow_mul-ship-3 c = record { fits = omega (arith, turned_within c.args.turn c.args.knots 0 (search rules) (search rules) (search rules)) }

-- the product of the ship's figures is small, and so is the square of its length
module _ (c : goal.After-lane_count) where
  abbrev start : goal.Start
  start = c.before

  abbrev ship : ℕ
  ship = 1143 * start.args.turn * (start.args.knots * start.args.knots) * c.lane_count.result

  ship_small : ship < 124 * 305750000
  ship_small =
      ship_within start.args.turn start.args.knots c.lane_count.result (search rules) (search rules)
      (omega (arith, c.lane_count.ensures, lanes_within start.args.lanes))

  square_small : start.args.length * start.args.length ≤ 65535 * 65535
  square_small = mul-le-mul {n₁ = start.args.length} {m₁ = start.args.length} {n₂ = 65535} {m₂ = 65535} (search rules) (search rules)

-- and so is the widening
module _ (c : After-scaled) where
  small : up c.scaled.result c.args.radius ≤ 4134 * 65535
  small =
      omega (arith, widening_within (ship c.before) c.args.length c.scaled.result (ship_small c.before) c.scaled.ensures c.args.radius c.requires)

pub overflow_mul-ship-4 : goal.overflow_mul-ship-4
overflow_mul-ship-4 c = record { fits = omega (arith, ship_small c) }

pub overflow_mul-length : goal.overflow_mul-length
overflow_mul-length c = record { fits = omega (arith, square_small c) }

pub scaled-requires : goal.scaled-requires
scaled-requires c = (ship_small c, omega (arith, square_small c))

pub overflow_cast-result : goal.overflow_cast-result
overflow_cast-result c = record { fits = omega (arith, small c.before, rounded_up _ _ _ c.requires.some c.div_ceil.ensures) }

pub returns : goal.returns
returns c = record {
  value = rounded_up _ _ _ c.requires.some c.div_ceil.ensures ∙ widening_is _ _ _ _ _ _ _ c.requires.some c.lane_count.ensures c.scaled.ensures;
  small = omega (arith, small c.before, rounded_up _ _ _ c.requires.some c.div_ceil.ensures);
}
