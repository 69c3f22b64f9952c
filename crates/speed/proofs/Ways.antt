-- The ways out of the check, as the definition has it: without a slope, and by the speed.
use Rattle.std.specs.Prelude.{Option, Result, Ok}
use mathlib.Core.Path.{◌≡◌, ap, sym, ◌∙◌}
use mathlib.Core.Logic.{◌≢◌}
use Prim.Native.Nat.{ℕ}
use borrow.Author.Tests.{eq-eqb, ne_eqb}
use Rattle.speed.specs.Critical.{critical_speed, by_speed, check_of}
use Rattle.speed.specs.declared.Section.{Section}
use Rattle.speed.specs.declared.SpeedFault.{SpeedFault}

module _ (q : Section) (knots : ℕ) where
  pub unasked : q.slope ≡ 0 → (Ok tt) ≡ check_of q knots
  unfolding check_of
  unasked none = rw (eq-eqb _ _ none)

  pub by_speed_lem : q.slope ≢ 0 → (speed found : Option ℕ) (r : Result (Unit {0}) SpeedFault) → speed ≡ found → speed ≡ critical_speed q → r ≡ by_speed q.cut.0 knots found
      → r ≡ check_of q knots
  unfolding check_of
  by_speed_lem asked speed found r e is g = rw (ne_eqb _ _ asked) (g ∙ ap (by_speed q.cut.0 knots) (sym e ∙ is))
