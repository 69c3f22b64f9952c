-- A check tells whether its rows hold: 16 by the points that the speed needs, 17 by the speed.
use Rattle.std.specs.Prelude.{Option, Some, None, Result, Ok, Err}
use mathlib.Core.Path.{◌≡◌, refl}
use mathlib.Core.Bool.{Bool, true, false}
use mathlib.Core.List.{[]}
use mathlib.Core.Logic.{◌↔◌, ◌≢◌}
use Prim.Native.Nat.{ℕ, ◌*◌, ◌≤◌}
use native.Mathlib.Omega.{arith}
use borrow.Author.Tests.{eqb-true, eqb-false, ne_eqb, ltb-true, ltb-false}
use Rattle.laws.specs.Choice.{ifᵇ◌then◌else◌, ◌<ᵇ◌, ◌=ᵇ◌}
use Rattle.laws.specs.Rows.{Exactly, ◌when◌}
use Rattle.laws.proofs.Never.{never}
use Rattle.laws.proofs.Rows.{Told, stop, past, Call, exactly, tested}
use Rattle.speed.specs.Critical.{critical_speed, whole, against, by_speed, check_of}
use Rattle.speed.specs.Refusals.{check_number, TooFast, speed_rows}
use Rattle.speed.specs.declared.Section.{Section}
use Rattle.speed.specs.declared.SpeedFault.{SpeedFault}
use Rattle.speed.specs.declared.SpeedFault.TheVariants.{TooFast as TooFastFault}
use Rattle.speed.proofs.Meaning.{critical_missing, lacking_critical}

-- what is told of a check: it is allowed, or has a fault
abbrev pub checks : Call (Result (Unit {0}) SpeedFault)
checks = record { number = check_number; answered = λ c. c ≡ (Ok tt); refused = λ c. (fault : SpeedFault) × (c ≡ Err fault) }

module _ (q : Section) (knots : ℕ) where
  abbrev CheckTold : Result (Unit {0}) SpeedFault → Type 0
  CheckTold = Told checks (speed_rows q knots)

  -- a known speed lacks no point, and is tested against the ship's
  by_parts : (q.slope =ᵇ 0) ≡ false → (parts : ℕ) → critical_speed q ≡ Some parts → CheckTold (against parts q.cut.0 knots)
  unfolding against
  by_parts asked parts is =
      past (λ row. let gone = lacking_critical q row.lacking in never cc)
      (tested checks (17 when TooFast q knots) [] (9 * parts * 3600 <ᵇ 100 * (knots * 1852) * whole q.cut.0) (Err TooFastFault) (Ok tt)
      (λ t. record { asked = eqb-false q.slope 0 asked; parts = parts; speed = is; more = ltb-true (9 * parts * 3600) _ t })
      (λ t row.
      let under = ltb-false (9 * parts * 3600) (100 * (knots * 1852) * whole q.cut.0) t in
      let same : row.parts ≡ parts = cc row.speed in
      omega (arith, rw same at row.more))
      (refl, (_, refl)) (refl, refl))

  by_speed_lem : (q.slope =ᵇ 0) ≡ false → (speed : Option ℕ) → critical_speed q ≡ speed → CheckTold (by_speed q.cut.0 knots speed)
  by_speed_lem asked (Some parts) is = by_parts asked parts is
  by_speed_lem asked None is = stop (record { asked = eqb-false q.slope 0 asked; lacking = critical_missing q is }) (refl, (_, refl))

  pub check_told : CheckTold (check_of q knots)
  unfolding check_of
  check_told = go (q.slope =ᵇ 0) refl
    where
      go : (b : Bool) → (q.slope =ᵇ 0) ≡ b → CheckTold (ifᵇ b then (Ok tt) else by_speed q.cut.0 knots (critical_speed q))
      go true none =
          let zero-slope = eqb-true q.slope 0 none in
          past (λ row. row.asked zero-slope) (past (λ row. row.asked zero-slope) (refl, refl))
      go false asked = by_speed_lem asked (critical_speed q) refl

  pub check_exactly : Exactly (speed_rows q knots) (check_number (check_of q knots))
  check_exactly = exactly checks (speed_rows q knots) tt (check_of q knots) check_told

  -- at a known speed it is allowed exactly when its test does not hold
  pub allowed_exactly : (parts : ℕ) → q.slope ≢ 0 → critical_speed q ≡ Some parts
      → (check_of q knots ≡ (Ok tt)) ↔ (100 * (knots * 1852) * whole q.cut.0 ≤ 9 * parts * 3600)
  unfolding check_of against
  allowed_exactly parts asked is = rw (ne_eqb q.slope 0 asked, is) (go (9 * parts * 3600 <ᵇ 100 * (knots * 1852) * whole q.cut.0) refl)
    where
      go : (b : Bool) → (9 * parts * 3600 <ᵇ 100 * (knots * 1852) * whole q.cut.0) ≡ b
          → (◌≡◌ {A = Result (Unit {0}) SpeedFault} (ifᵇ b then Err TooFastFault else Ok tt) (Ok tt)) ↔ (100 * (knots * 1852) * whole q.cut.0 ≤ 9 * parts * 3600)
      go true e = (λ same. never cc, λ within. absurd (omega (arith, ltb-true (9 * parts * 3600) _ e)))
      go false e = (λ same. ltb-false (9 * parts * 3600) _ e, λ within. refl)
