-- The parts that are shown: a speed over a divisor, and that a ship is allowed exactly up to the fastest.
use Rattle.std.specs.Prelude.{Option, Some, None, Ok, Err}
use mathlib.Core.Path.{◌≡◌, refl, sym}
use mathlib.Core.Bool.{Bool, true, false}
use mathlib.Core.Logic.{◌↔◌, ◌≢◌}
use Prim.Native.Nat.{ℕ, ◌*◌, ◌/◌, ◌≤◌, ◌<◌}
use native.Mathlib.Nat.{le-div_iff_mul-le}
use native.Mathlib.Omega.{arith}
use borrow.Author.Tests.{ne_eqb}
use lib.Dec.{eqb}
use Rattle.laws.specs.Choice.{ifᵇ◌then◌else◌}
use Rattle.laws.proofs.Never.{never}
use Rattle.speed.specs.Critical.{critical_speed, whole, check_of}
use Rattle.speed.specs.Shown.{quotient, over, fastest_speed, parts_shown}
use Rattle.speed.specs.declared.Section.{Section}
use Rattle.speed.specs.declared.SpeedFault.TheVariants.{PointMissing}
use Rattle.speed.proofs.Ways.{by_speed_lem}
use Rattle.speed.proofs.Refusals.{allowed_exactly}

module _ (divisor : ℕ) (speed : Option ℕ) where
  pub over_some : divisor ≢ 0 → quotient divisor speed ≡ over divisor speed
  unfolding over
  over_some some = rw (ne_eqb divisor 0 some)

pub over_missing : (divisor : ℕ) → None ≡ over divisor None
unfolding over
over_missing divisor = go (eqb divisor 0)
  where
    go : (b : Bool) → ◌≡◌ {A = Option ℕ} None (ifᵇ b then None else None)
    go true = refl
    go false = refl

-- the fastest is at most nine tenths of the joined speed
module _ (cut knots : ℕ) (some : 0 < cut) where
  at_most : (parts : ℕ) → (100 * (knots * 1852) * whole cut ≤ 9 * parts * 3600) ↔ (100 * knots ≤ 9 * 3600 * parts / (1852 * whole cut))
  at_most parts =
      let left : 100 * (knots * 1852) * whole cut ≡ 100 * knots * (1852 * whole cut) = omega arith in
      let divided = le-div_iff_mul-le {k = 1852 * whole cut} {x = 100 * knots} {y = 9 * 3600 * parts} (omega arith) in
      (λ h. divided.1 (omega arith), λ h. omega (arith, divided.0 h))

  known : (parts : ℕ) → fastest_speed cut (Some parts) ≡ Some (9 * 3600 * parts / (1852 * whole cut))
  unfolding fastest_speed
  known parts = sym (over_some (1852 * whole cut) (Some (9 * 3600 * parts)) (λ e. omega arith))

pub none_known : (cut : ℕ) → fastest_speed cut None ≡ None
unfolding fastest_speed
none_known cut = sym (over_missing (1852 * whole cut))

module _ (q : Section) (knots : ℕ) (asked : q.slope ≢ 0) (some : 0 < q.cut.0) where
  abbrev UpTo : Option ℕ → Type 0
  UpTo fastest = (hundredths : ℕ) × (fastest ≡ Some hundredths) × (100 * knots ≤ hundredths)

  by_case : (speed : Option ℕ) → critical_speed q ≡ speed → (check_of q knots ≡ (Ok tt)) ↔ UpTo (fastest_speed q.cut.0 speed)
  by_case (Some parts) is =
      let exactly = allowed_exactly q knots parts asked is in
      let most = at_most q.cut.0 knots some parts in (
        (λ e. (_, known q.cut.0 knots some parts, most.0 (exactly.0 e))),
        (λ u.
            let same : u.0 ≡ 9 * 3600 * parts / (1852 * whole q.cut.0) = cc (known q.cut.0 knots some parts, u.1) in
            exactly.1 (most.1 (rw same at u.2))),
      )
  by_case None is =
      let refused = by_speed_lem q knots asked None None (Err PointMissing) refl (sym is) refl in (
        (λ e. never cc),
        (λ u. never (cc (none_known q.cut.0, u.1))),
      )

  pub allowed_to_fastest : (check_of q knots ≡ (Ok tt)) ↔ UpTo (parts_shown q).fastest
  unfolding parts_shown
  allowed_to_fastest = by_case (critical_speed q) refl
