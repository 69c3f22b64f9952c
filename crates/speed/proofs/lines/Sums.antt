-- A drawn line as a sum over every line of its grid, each by its weight.
use mathlib.Core.Path.{◌≡◌, refl, ap, sym, fun_ext, ◌∙◌}
use mathlib.Core.Logic.{◌≢◌, ⊎_elim}
use Prim.Native.Nat.{ℕ, zero, suc, ◌+◌, ◌*◌, ◌/◌, ◌≤◌, ◌<◌}
use native.Mathlib.Nat.{mul-zero, mul-add, mul_assoc, zero-mul, mod-lt, eq-or-lt_of_le}
use native.Mathlib.Numerals.{add-one}
use native.Mathlib.Omega.{arith}
use Rattle.speed.specs.Weights.{weight, sum}
use Rattle.speed.proofs.lines.Straight.{line, weight_near, weight_next, weight_else}

pub sum_same : (n : ℕ) (f g : ℕ → ℕ) → ((k : ℕ) → f k ≡ g k) → sum n f ≡ sum n g
sum_same n f g same = ap (sum n) (fun_ext same)

pub sum_scale : (c n : ℕ) (f : ℕ → ℕ) → c * sum n f ≡ sum n (λ k. c * f k)
sum_scale c zero f = mul-zero c
sum_scale c (suc n) f = mul-add c (sum n f) (f n) ∙ ap (λ (s : ℕ). s + c * f n) (sum_scale c n f)

sum_none : (n : ℕ) (f : ℕ → ℕ) → ((k : ℕ) → k < n → f k ≡ 0) → sum n f ≡ 0
sum_none zero f none = refl
sum_none (suc n) f none = omega (arith, sum_none n f (λ k h. none k (omega arith)), none n (omega arith))

-- a sum of which only two neighbours are not 0
sum_two : (f : ℕ → ℕ) (a : ℕ) → ((k : ℕ) → k ≢ a → k ≢ a + 1 → f k ≡ 0) → (n : ℕ) → a + 1 < n
    → sum n f ≡ f a + f (a + 1)
sum_two f a none zero h = absurd (omega arith)
sum_two f a none (suc n) h =
    ⊎_elim (λ last. ap (λ (m : ℕ). sum m f + f m) (sym last) ∙ ap (λ (s : ℕ). s + f (a + 1)) before)
    (λ past. omega (arith, sum_two f a none n past, none n (λ e. omega arith) (λ e. omega arith)))
    (eq-or-lt_of_le (let r : a + 1 ≤ n = omega arith in r))
  where
    before : sum (a + 1) f ≡ f a
    before = rw add-one (omega (arith, sum_none a f (λ k less. none k (λ e. omega arith) (λ e. omega arith))))

module _ (step x n : ℕ) (some : 0 < step) (enough : x / step + 1 < n) where
  pub line_sum : (g : ℕ → ℕ) → line step x g ≡ sum n (λ k. weight step x k * g k)
  line_sum g =
      sym
      (sum_two _ (x / step) (λ k near next. rw (weight_else step x some k near next) (zero-mul (g k))) n enough
      ∙ rw (weight_near step x some, weight_next step x some) refl)

  pub weights_add_up : sum n (weight step x) ≡ step
  weights_add_up =
      sum_two (weight step x) (x / step) (weight_else step x some) n enough
      ∙ rw (weight_near step x some, weight_next step x some) (omega (arith, mod-lt x some))

  -- so many times a drawn line
  pub times_line : (c : ℕ) (g : ℕ → ℕ) → c * line step x g ≡ sum n (λ k. c * weight step x k * g k)
  times_line c g = ap (λ (m : ℕ). c * m) (line_sum g) ∙ sum_scale c n (λ k. weight step x k * g k) ∙ simp mul_assoc
