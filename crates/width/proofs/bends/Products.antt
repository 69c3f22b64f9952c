-- The widening as it is worked: the fraction in its lowest terms is divided in two steps, and each product and quotient on the way is bounded.
use mathlib.Core.Path.{◌≡◌, refl, sym, ◌∙◌}
use Prim.Native.Nat.{ℕ, ◌*◌, ◌/◌, ◌%◌, ◌≤◌, ◌<◌}
use native.Mathlib.Nat.{mul-le-mul, mul-le-mul_left, mul-le-mul_right}
use native.Mathlib.Omega.{arith}
use Rattle.laws.specs.Rounding.{up}
use Rattle.laws.proofs.Rounding.{up_le}
use Rattle.lanes.proofs.Promises.{lanes_within}
use Rattle.lanes.specs.declared.Lanes.{Lanes}
use Rattle.lanes.specs.Lanes.{lane_count}
use Rattle.width.specs.Bends.{widening_of, LongEnough}
use Rattle.laws.proofs.Quotients.{up_factor, up_twice}

-- the products of the widening
module _ (turn knots lanes : ℕ) (t : turn ≤ 255) (k : knots ≤ 255) (l : lanes ≤ 2) where
  pub square_within : knots * knots ≤ 65025
  square_within = mul-le-mul {n₂ = 255} {m₂ = 255} k k

  pub turned_within : 1143 * turn * (knots * knots) ≤ 291465 * 65025
  turned_within = mul-le-mul {n₁ = 1143 * turn} {m₁ = knots * knots} {n₂ = 291465} {m₂ = 65025} (omega arith) square_within

  pub ship_within : 1143 * turn * (knots * knots) * lanes < 124 * 305750000
  ship_within = omega (arith, mul-le-mul {n₁ = 1143 * turn * (knots * knots)} {m₁ = lanes} {n₂ = 291465 * 65025} {m₂ = 2} turned_within l)

-- the two parts of what comes before the radius
module _ (ship square : ℕ) (small : ship < 124 * 305750000) (fits : square < 4294967296) where
  pub whole_within : ship / 305750000 * square ≤ 124 * 4294967296
  whole_within = mul-le-mul {n₁ = ship / 305750000} {m₁ = square} {n₂ = 124} {m₂ = 4294967296} (omega arith) (omega arith)

  pub rest_within : ship % 305750000 * square ≤ 305750000 * 4294967296
  rest_within = mul-le-mul {n₁ = ship % 305750000} {m₁ = square} {n₂ = 305750000} {m₂ = 4294967296} (omega arith) (omega arith)

-- what comes before the radius, and the widening
module _ (ship length scaled : ℕ) (small : ship < 124 * 305750000) (s : scaled ≡ up (ship * (length * length)) 305750000) where
  pub scaled_within : scaled ≤ 124 * (length * length)
  scaled_within =
      let reach : ship * (length * length) ≤ 124 * 305750000 * (length * length) = mul-le-mul_right (length * length) (omega arith) in
      rw s ((up_le (ship * (length * length)) 305750000 (124 * (length * length)) (omega arith)).1 (omega arith))

  pub widening_within : (radius : ℕ) → LongEnough radius length → up scaled radius ≤ 4134 * length
  widening_within radius e =
      let reach : length * (3 * length) ≤ length * (100 * radius) = mul-le-mul_left length e.three in
      (up_le scaled radius (4134 * length) e.some).1 (omega (arith, scaled_within))

pub widening_is : (turn radius length knots : ℕ) (lanes : Lanes) (count scaled : ℕ) → 0 < radius → count ≡ lane_count lanes
    → scaled ≡ up (1143 * turn * (knots * knots) * count * (length * length)) 305750000
    → up scaled radius ≡ widening_of turn radius length knots lanes
unfolding widening_of
widening_is turn radius length knots lanes count scaled h n s =
    let top : 8 * (1143 * turn * (knots * knots) * count * (length * length)) ≡ 9144 * turn * (knots * knots) * (length * length) * count = omega arith in
    let bottom : 8 * (305750000 * radius) ≡ 2446000000 * radius = omega arith in
    let whole = 1143 * turn * (knots * knots) * count * (length * length) in
    rw (s, ← n, ← top, ← bottom)
    (up_twice whole 305750000 radius (omega arith) h ∙ sym (up_factor 8 whole (305750000 * radius) (omega arith) (omega arith)))

-- so no widening is over 4,134 lengths
pub widening_to : (turn radius length knots : ℕ) (lanes : Lanes) → turn ≤ 255 → knots ≤ 255 → LongEnough radius length
    → widening_of turn radius length knots lanes ≤ 4134 * length
widening_to turn radius length knots lanes t k e =
    let ship = 1143 * turn * (knots * knots) * lane_count lanes in
    let scaled = up (ship * (length * length)) 305750000 in
    rw (← widening_is turn radius length knots lanes (lane_count lanes) scaled e.some refl refl)
    (widening_within ship length scaled (ship_within turn knots (lane_count lanes) t k (lanes_within lanes)) refl radius e)
