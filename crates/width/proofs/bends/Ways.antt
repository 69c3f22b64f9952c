-- The ways out of a bend: each by the tests that lead to it.
use Rattle.std.specs.Prelude.{Ok, Err}
use mathlib.Core.Path.{◌≡◌, refl}
use mathlib.Core.Bool.{Bool, true, false}
use Prim.Native.Nat.{ℕ, ◌*◌, ◌≤◌, ◌<◌}
use native.Mathlib.Nat.{mul-le-mul_right}
use native.Mathlib.Omega.{arith}
use borrow.Author.Tests.{eq-eqb, ne_eqb, lt-ltb, le-ltb}
use lib.Dec.{ltb}
use Rattle.laws.specs.Choice.{ifᵇ◌then◌else◌}
use Rattle.lanes.specs.declared.Lanes.{Lanes}
use Rattle.width.specs.Bends.{least_lengths, widening_of, bend_of, LongEnough}
use Rattle.width.specs.declared.WidthFault.TheVariants.{BendTooTight}

-- the least radius is 3 to 10 lengths
pub lengths_within : (turn : ℕ) → (3 ≤ least_lengths turn) × (least_lengths turn ≤ 10)
unfolding least_lengths
lengths_within turn = go (ltb turn 25) (ltb turn 35) (ltb turn 55)
  where
    go : (a b c : Bool)
        → (3 ≤ (ifᵇ a then 3 else (ifᵇ b then 5 else (ifᵇ c then 8 else 10)))) × ((ifᵇ a then 3 else (ifᵇ b then 5 else (ifᵇ c then 8 else 10))) ≤ 10)
    go true b c = omega arith
    go false true c = omega arith
    go false false true = omega arith
    go false false false = omega arith

pub straight_always : (radius length knots : ℕ) (lanes : Lanes) → bend_of 0 radius length knots lanes ≡ Ok 0
unfolding bend_of
straight_always radius length knots lanes = refl

module _ (turn radius length knots : ℕ) (lanes : Lanes) where
  pub straight : turn ≡ 0 → Ok 0 ≡ bend_of turn radius length knots lanes
  unfolding bend_of
  straight e = rw (eq-eqb turn 0 e)

  module _ (bent : turn ≡ 0 → ⊥) (lengths : ℕ) (e : lengths ≡ least_lengths turn) where
    pub tight : 100 * radius < lengths * length → (Err BendTooTight) ≡ bend_of turn radius length knots lanes
    unfolding bend_of
    tight h = rw (ne_eqb turn 0 bent, ← e, lt-ltb (100 * radius) (lengths * length) h)

    module _ (h : lengths * length ≤ 100 * radius) where
      -- a bend that is neither too tight nor wide is long enough
      pub long_enough : 100 * radius < 10 * length → LongEnough radius length
      long_enough under =
          let least : 3 * length ≤ lengths * length = mul-le-mul_right length (omega (arith, e, (lengths_within turn).0)) in
          record { some = omega arith; three = omega arith }

      pub widened : 100 * radius < 10 * length → (cm : ℕ) → cm ≡ widening_of turn radius length knots lanes
          → Ok cm ≡ bend_of turn radius length knots lanes
      unfolding bend_of
      widened under cm w =
          rw (ne_eqb turn 0 bent, ← e, le-ltb (100 * radius) (lengths * length) h, lt-ltb (100 * radius) (10 * length) under, w)

      pub wide : 10 * length ≤ 100 * radius → Ok 0 ≡ bend_of turn radius length knots lanes
      unfolding bend_of
      wide over = rw (ne_eqb turn 0 bent, ← e, le-ltb (100 * radius) (lengths * length) h, le-ltb (100 * radius) (10 * length) over)
