-- A straight line over a grid: the weights of the two lines beside x, which lines are needed, and what the drawn line comes to.
use Rattle.std.specs.Prelude.{Option, Some, None}
use mathlib.Core.Path.{◌≡◌, refl, ap, sym, ◌∙◌}
use mathlib.Core.Logic.{◌⊎◌, inl, inr, ◌≢◌, ⊎_elim}
use mathlib.Core.Bool.{Bool, true, false}
use Prim.Native.Nat.{ℕ, ◌+◌, ◌-◌, ◌*◌, ◌/◌, ◌%◌, ◌≤◌, ◌<◌}
use native.Mathlib.Nat.{div-add-mod', mod-lt, mul-le-mul_right, mul-le-mul_left, mul-div_cancel, mul-mod_left, mul_comm, add-mul, sub-add_cancel, sub-zero, le_of_lt}
use native.Mathlib.Omega.{arith}
use borrow.Author.Tests.{eqb-true, eqb-false, ltb-true, ltb-false}
use lib.Dec.{eqb, ltb}
use Rattle.speed.specs.Lines.{parts_of, times, straight}
use Rattle.speed.specs.Weights.{weight}
use Rattle.speed.proofs.lines.Weighing.{product_most, weighed_known, weighed_from, weighed_missing, near_missing, far_missing, weighed_same, weighed_alone}

-- the straight line between the numbers at two neighbouring lines of a grid, times its step
abbrev pub line : ℕ → ℕ → (ℕ → ℕ) → ℕ
line step x g = (step - x % step) * g (x / step) + x % step * g (x / step + 1)

module _ (step x : ℕ) (some : 0 < step) where
  pub weight_near : weight step x (x / step) ≡ step - x % step
  unfolding weight
  weight_near = omega (arith, div-add-mod' x step)

  pub weight_next : weight step x (x / step + 1) ≡ x % step
  unfolding weight
  weight_next = omega (arith, div-add-mod' x step, mod-lt x some)

  weight_before : (k : ℕ) → k < x / step → weight step x k ≡ 0
  unfolding weight
  weight_before k h = omega (arith, div-add-mod' x step, mul-le-mul_right step h)

  weight_past : (k : ℕ) → x / step + 1 < k → weight step x k ≡ 0
  unfolding weight
  weight_past k h = omega (arith, div-add-mod' x step, mod-lt x some, mul-le-mul_right step h)

  pub weight_else : (k : ℕ) → k ≢ x / step → k ≢ x / step + 1 → weight step x k ≡ 0
  weight_else k near next = go (ltb k (x / step)) refl
    where
      go : (b : Bool) → ltb k (x / step) ≡ b → weight step x k ≡ 0
      go true e = weight_before k (ltb-true _ _ e)
      go false e = weight_past k (omega (arith, ltb-false k (x / step) e))

  -- the lines with weight: the one at or before x, and the next unless x is on a line
  pub needed_line : (k : ℕ) → 0 < weight step x k → (k ≡ x / step) ⊎ ((k ≡ x / step + 1) × (0 < x % step))
  needed_line k h = go (eqb k (x / step)) (eqb k (x / step + 1)) refl refl
    where
      go : (a b : Bool) → eqb k (x / step) ≡ a → eqb k (x / step + 1) ≡ b → (k ≡ x / step) ⊎ ((k ≡ x / step + 1) × (0 < x % step))
      go true b near next = inl (eqb-true _ _ near)
      go false true near next =
          let same = eqb-true k (x / step + 1) next in
          inr (same, rw (← weight_next, ← same) h)
      go false false near next = absurd (omega (arith, weight_else k (eqb-false _ _ near) (eqb-false _ _ next)))

  pub near_needed : 0 < weight step x (x / step)
  near_needed = rw weight_near (omega (arith, mod-lt x some))

  pub next_needed : 0 < x % step → 0 < weight step x (x / step + 1)
  next_needed h = rw weight_next h

  module _ (f : ℕ → Option ℕ) where
    pub straight_missing : straight step x f ≡ None → (k : ℕ) × ((0 < weight step x k) × (f k ≡ None))
    unfolding straight
    straight_missing e =
        ⊎_elim (λ near. (x / step, (near_needed, near.1))) (λ next. (x / step + 1, (next_needed next.0, next.1)))
        (weighed_missing _ (f (x / step)) _ (f (x / step + 1)) e)

    pub missing_straight : (k : ℕ) → 0 < weight step x k → f k ≡ None → straight step x f ≡ None
    unfolding straight
    missing_straight k h e =
        ⊎_elim (λ near. near_missing _ _ _ _ (omega (arith, mod-lt x some)) (rw near at e))
        (λ next. far_missing _ _ _ _ next.1 (rw next.0 at e))
        (needed_line k h)

    pub straight_known : (n : ℕ) → straight step x f ≡ Some n → n ≡ line step x (λ k. parts_of (f k))
    unfolding straight
    straight_known n e = weighed_known _ (f (x / step)) _ (f (x / step + 1)) n e

    -- the same by what the speeds of the lines with weight come to
    pub straight_from : (g : ℕ → ℕ) → ((k : ℕ) → 0 < weight step x k → (m : ℕ) → f k ≡ Some m → m ≡ g k)
        → (n : ℕ) → straight step x f ≡ Some n → n ≡ line step x g
    unfolding straight
    straight_from g from = weighed_from _ _ _ _ _ _ (λ h. from (x / step) near_needed) (λ h. from (x / step + 1) (next_needed h))

  -- only the lines with weight count: any other point changes nothing
  pub straight_only : (f g : ℕ → Option ℕ) → ((k : ℕ) → 0 < weight step x k → f k ≡ g k) → straight step x f ≡ straight step x g
  unfolding straight
  straight_only f g same = weighed_same _ _ _ _ _ _ (λ h. same (x / step) near_needed) (λ h. same (x / step + 1) (next_needed h))

  pub straight_same : (f g : ℕ → Option ℕ) → ((k : ℕ) → f k ≡ g k) → straight step x f ≡ straight step x g
  straight_same f g same = straight_only f g (λ k h. same k)

  -- the two weights are the whole step
  whole_step : (n : ℕ) → (step - x % step) * n + x % step * n ≡ n * step
  whole_step n =
      sym (add-mul (step - x % step) (x % step) n) ∙ ap (λ (m : ℕ). m * n) (sub-add_cancel (le_of_lt (mod-lt x some))) ∙ mul_comm step n

  -- a drawn line lies between the least and the greatest of the lines with weight
  pub line_between : (g : ℕ → ℕ) (lo hi : ℕ) → ((k : ℕ) → 0 < weight step x k → (lo ≤ g k) × (g k ≤ hi))
      → (lo * step ≤ line step x g) × (line step x g ≤ hi * step)
  line_between g lo hi within =
      let (low, high) = within (x / step) near_needed in (
        omega (arith, whole_step lo, mul-le-mul_left (step - x % step) low, product_most (x % step) lo _ (λ h. (within _ (next_needed h)).0)),
        omega (arith, whole_step hi, mul-le-mul_left (step - x % step) high, product_most (x % step) _ hi (λ h. (within _ (next_needed h)).1)),
      )

-- the same of speeds
pub straight_between : (step x : ℕ) → 0 < step → (f : ℕ → Option ℕ) (lo hi n : ℕ)
    → ((k : ℕ) → 0 < weight step x k → (lo ≤ parts_of (f k)) × (parts_of (f k) ≤ hi)) → straight step x f ≡ Some n → (lo * step ≤ n) × (n ≤ hi * step)
straight_between step x some f lo hi n within e =
    rw (straight_known step x some f n e) (line_between step x some (λ k. parts_of (f k)) lo hi within)

-- a point on a line of the grid has that line's speed, times the step
pub at_line : (step k : ℕ) → 0 < step → (f : ℕ → Option ℕ) → straight step (k * step) f ≡ times step (f k)
unfolding straight
at_line step k some f = rw (mul-div_cancel k some, mul-mod_left k step, sub-zero) (weighed_alone step (f k) (f (k + 1)) some)
