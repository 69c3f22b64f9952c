-- What the lane rule promises (section 3).
use mathlib.Core.Path.{◌≡◌}
use mathlib.Core.Logic.{◌↔◌}
use Prim.Native.Nat.{ℕ, ◌*◌, ◌≤◌, ◌<◌}
use native.Mathlib.Omega.{arith}
use Rattle.laws.proofs.Unique.{one_answer}
use Rattle.lanes.specs.Lanes.{lane_count, by_traffic, lanes_of, sides_of}
use Rattle.lanes.specs.declared.Lanes.{Lanes}
use Rattle.lanes.specs.declared.Lanes.TheVariants.{One, Two}
use Rattle.lanes.specs.declared.Sides.{Sides}
use Rattle.lanes.proofs.Traffic.{one_exactly, by_traffic_else, named_one, named_two, one_by_sides}

-- One lane exactly when channel length × ships < 4,444,800 × knots; equal means two.
pub one_lane : (channel ships knots : ℕ) → (by_traffic channel ships knots ≡ One) ↔ (channel * ships < 4444800 * knots)
one_lane = one_exactly

-- Field 11 at 1 or 2 overrides; at any other number the traffic decides.
pub one_named : (channel ships knots : ℕ) → lanes_of 1 channel ships knots ≡ One
one_named = named_one

pub two_named : (channel ships knots : ℕ) → lanes_of 2 channel ships knots ≡ Two
two_named = named_two

pub none_named : (channel ships knots named : ℕ) → (named ≡ 1 → ⊥) → (named ≡ 2 → ⊥) → lanes_of named channel ships knots ≡ by_traffic channel ships knots
none_named = by_traffic_else

-- The sides that are shown are those that decide: where no lanes are named, one lane exactly when the traffic is under the limit.
pub sides_decide : (channel ships knots : ℕ) → (lanes_of 0 channel ships knots ≡ One) ↔ ((sides_of channel ships knots).traffic < (sides_of channel ships knots).limit)
sides_decide = one_by_sides

-- There are at most two.
pub lanes_within : (lanes : Lanes) → lane_count lanes ≤ 2
lanes_within One = omega arith
lanes_within Two = omega arith

-- One answer of each call.
pub lanes_unique : (named channel ships knots : ℕ) (r s : Lanes) → r ≡ lanes_of named channel ships knots → s ≡ lanes_of named channel ships knots → r ≡ s
lanes_unique named channel ships knots = one_answer

pub count_unique : (lanes : Lanes) (r s : ℕ) → r ≡ lane_count lanes → s ≡ lane_count lanes → r ≡ s
count_unique lanes = one_answer

pub sides_unique : (channel ships knots : ℕ) (r s : Sides) → r ≡ sides_of channel ships knots → s ≡ sides_of channel ships knots → r ≡ s
sides_unique channel ships knots = one_answer
