-- When the traffic asks for one lane.
use mathlib.Core.Path.{◌≡◌, refl, sym}
use mathlib.Core.Bool.{Bool, true, false}
use mathlib.Core.Logic.{◌↔◌}
use Prim.Native.Nat.{ℕ, ◌*◌, ◌<◌}
use borrow.Author.Tests.{lt-ltb, ltb-true, ne_eqb}
use lib.Dec.{ltb}
use Rattle.laws.proofs.Never.{never}
use Rattle.laws.specs.Choice.{ifᵇ◌then◌else◌}
use Rattle.lanes.specs.Lanes.{by_traffic, lanes_of, sides_of}
use Rattle.lanes.specs.declared.Lanes.TheVariants.{One, Two}

module _ (channel ships knots : ℕ) where
  one_by_traffic : by_traffic channel ships knots ≡ One → channel * ships < 4444800 * knots
  unfolding by_traffic
  one_by_traffic e = go (ltb (channel * ships) (4444800 * knots)) refl e
    where
      go : (b : Bool) → ltb (channel * ships) (4444800 * knots) ≡ b → (ifᵇ b then One else Two) ≡ One → channel * ships < 4444800 * knots
      go true p e = ltb-true _ _ p
      go false p e = never cc

  pub under_limit : channel * ships < 4444800 * knots → One ≡ by_traffic channel ships knots
  unfolding by_traffic
  under_limit h = rw (lt-ltb (channel * ships) (4444800 * knots) h)

  pub one_exactly : (by_traffic channel ships knots ≡ One) ↔ (channel * ships < 4444800 * knots)
  one_exactly = (one_by_traffic, λ h. sym (under_limit h))

  pub by_traffic_else : (named : ℕ) → (named ≡ 1 → ⊥) → (named ≡ 2 → ⊥) → lanes_of named channel ships knots ≡ by_traffic channel ships knots
  unfolding lanes_of
  by_traffic_else named n m = rw (ne_eqb named 1 n, ne_eqb named 2 m)

  pub named_one : lanes_of 1 channel ships knots ≡ One
  unfolding lanes_of
  named_one = refl

  pub named_two : lanes_of 2 channel ships knots ≡ Two
  unfolding lanes_of
  named_two = refl

  pub one_by_sides : (lanes_of 0 channel ships knots ≡ One) ↔ ((sides_of channel ships knots).traffic < (sides_of channel ships knots).limit)
  unfolding lanes_of sides_of
  one_by_sides = one_exactly
