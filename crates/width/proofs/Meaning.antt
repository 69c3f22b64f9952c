-- What a width, a widening and a least radius are: each the least whole number that reaches the definition's fraction.
use Rattle.std.specs.Prelude.{Ok, Err}
use mathlib.Core.Path.{◌≡◌, refl, sym, ap, subst, ◌∙◌}
use mathlib.Core.Bool.{Bool, true, false}
use mathlib.Core.Logic.{◌↔◌}
use Prim.Native.Nat.{ℕ, ◌*◌, ◌≤◌, ◌<◌}
use native.Mathlib.Nat.{mul-le-mul_right}
use native.Mathlib.Omega.{arith}
use borrow.Author.Tests.{eqb-true, eqb-false}
use lib.Dec.{eqb}
use Rattle.laws.specs.Extremes.{Least}
use Rattle.laws.specs.Rounding.{up}
use Rattle.laws.proofs.Extremes.{least_only}
use Rattle.laws.proofs.Quotients.{up_least}
use Rattle.lanes.specs.Lanes.{lane_count}
use Rattle.lanes.specs.declared.Lanes.{Lanes}
use Rattle.width.specs.Width.{items_of, tenths_of, width_of}
use Rattle.width.specs.Bends.{least_lengths, least_radius, widening_of, bend_of}
use Rattle.width.specs.Refusals.{bend_number}
use Rattle.width.specs.declared.Stretch.{Stretch}
use Rattle.width.specs.declared.Entries.{Entries}
use Rattle.width.proofs.bends.Ways.{lengths_within, straight, tight, long_enough, widened, wide}
use Rattle.width.proofs.Refusals.{bend_exactly}
use Rattle.width.specs.declared.WidthFault.TheVariants.{BendTooTight}

-- a number that is rounded up is the least that reaches
up_exactly : (top bottom n cm : ℕ) → 0 < bottom → n ≡ up top bottom → (n ≡ cm) ↔ Least (λ (w : ℕ). top ≤ w * bottom) cm
up_exactly top bottom n cm some is = (
  (λ e. subst (Least (λ (w : ℕ). top ≤ w * bottom)) (sym is ∙ e) (up_least top bottom some)),
  (λ l. is ∙ least_only (λ (w : ℕ). top ≤ w * bottom) _ cm (up_least top bottom some) l),
)

pub rounded_exactly : (s : Stretch) (e : Entries) (cm : ℕ)
    → (width_of s e ≡ cm) ↔ Least (λ (w : ℕ). tenths_of s.lanes (items_of s e) * s.beam ≤ w * 10) cm
unfolding width_of
rounded_exactly s e cm = up_exactly (tenths_of s.lanes (items_of s e) * s.beam) 10 _ cm (omega arith) refl

module _ (turn radius length knots : ℕ) (lanes : Lanes) where
  -- no widening from 10 lengths on
  pub none_from_ten : 10 * length ≤ 100 * radius → bend_of turn radius length knots lanes ≡ Ok 0
  none_from_ten h = go (eqb turn 0) refl
    where
      least : least_lengths turn * length ≤ 10 * length
      least = mul-le-mul_right length (lengths_within turn).1

      go : (t : Bool) → eqb turn 0 ≡ t → bend_of turn radius length knots lanes ≡ Ok 0
      go true p = sym (straight turn radius length knots lanes (eqb-true turn 0 p))
      go false p = sym (wide turn radius length knots lanes (eqb-false turn 0 p) (least_lengths turn) refl (omega (arith, least)) h)

  -- else the widening is the least that reaches the definition's fraction
  pub widening_exactly : ¬ (turn ≡ 0) → least_lengths turn * length ≤ 100 * radius → 100 * radius < 10 * length → (cm : ℕ)
      → (bend_of turn radius length knots lanes ≡ Ok cm)
      ↔ Least (λ (w : ℕ). 9144 * turn * (knots * knots) * (length * length) * lane_count lanes ≤ w * (2446000000 * radius)) cm
  unfolding widening_of
  widening_exactly bent h under cm =
      let is : Ok (widening_of turn radius length knots lanes) ≡ bend_of turn radius length knots lanes =
      widened turn radius length knots lanes bent (least_lengths turn) refl h under _ refl in
      let meant = up_exactly (9144 * turn * (knots * knots) * (length * length) * lane_count lanes) (2446000000 * radius)
      (widening_of turn radius length knots lanes) cm
      (omega (arith, (long_enough turn radius length knots lanes bent (least_lengths turn) refl h under).some)) refl in (
        (λ e. meant.0 cc),
        (λ l. sym is ∙ ap Ok (meant.1 l)),
      )

  -- a bend is too tight exactly under its least radius in whole metres
  pub tight_exactly : ¬ (turn ≡ 0) → (bend_of turn radius length knots lanes ≡ (Err BendTooTight)) ↔ (radius < least_radius turn length)
  unfolding least_radius
  tight_exactly bent = (
    (λ e. omega (arith, under e)),
    (λ h. sym (tight turn radius length knots lanes bent (least_lengths turn) refl (omega arith))),
  )
    where
      under : bend_of turn radius length knots lanes ≡ (Err BendTooTight) → 100 * radius < least_lengths turn * length
      under e = (((bend_exactly turn radius length knots lanes).number_given 7 (omega arith)).0 (ap bend_number e)).0.under
