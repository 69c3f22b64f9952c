-- The digits of a number: one division at a time, and how many there are.
-- By induction on divisions by ten.
use mathlib.Core.Path.{◌≡◌, refl, ap, ◌∙◌}
use mathlib.Core.Bool.{Bool, true, false}
use mathlib.Core.List.{[], ◌∷◌, ◌++◌}
use Prim.Native.Nat.{ℕ, zero, suc, ◌+◌, ◌*◌, ◌/◌, ◌%◌, ◌^◌, ◌≤◌, ◌<◌}
use native.Mathlib.Omega.{arith}
use borrow.Author.Tests.{lt-ltb, le-ltb, ltb-true, ltb-false}
use lib.Dec.{ltb}
use lib.ListN.{length, length-append}
use lib.Pow.{pow-add}
use Rattle.lines.specs.Decimals.{digits_within, digits}

-- what holds on either side of a bound
pub below_or : (n k : ℕ) {P : Type 0} → (n < k → P) → (k ≤ n → P) → P
below_or n k {P} below from = go (ltb n k) refl
  where
    go : (b : Bool) → ltb n k ≡ b → P
    go true e = below (ltb-true n k e)
    go false e = from (ltb-false n k e)

-- more divisions than are needed change nothing
steady : (f g n : ℕ) → n ≤ f → n ≤ g → digits_within f n ≡ digits_within g n
unfolding digits_within
steady zero zero n p q = refl
steady zero (suc g) n p q = rw (lt-ltb n 10 (omega arith))
steady (suc f) zero n p q = rw (lt-ltb n 10 (omega arith))
steady (suc f) (suc g) n p q =
    below_or n 10 (λ h. rw (lt-ltb n 10 h)) (λ h. rw (le-ltb n 10 h, steady f g (n / 10) (omega arith) (omega arith)))

pub digits_one : (n : ℕ) → n < 10 → digits n ≡ n ∷ []
unfolding digits digits_within
digits_one zero h = refl
digits_one (suc n) h = rw (lt-ltb (suc n) 10 h)

pub digits_more : (n : ℕ) → 10 ≤ n → digits n ≡ digits (n / 10) ++ n % 10 ∷ []
unfolding digits digits_within
digits_more zero h = absurd (omega arith)
digits_more (suc n) h =
    rw (le-ltb (suc n) 10 h, steady n (suc n / 10) (suc n / 10) (omega arith) (omega arith))

-- what holds of the numbers below ten, and of a number where it holds of its tenth, holds of every number
module _ (P : ℕ → Type 0) (one : (n : ℕ) → n < 10 → P n) (more : (n : ℕ) → 10 ≤ n → P (n / 10) → P n) where
  by_tens_within : (f n : ℕ) → n ≤ f → P n
  by_tens_within zero n h = one n (omega arith)
  by_tens_within (suc f) n h = below_or n 10 (one n) (λ l. more n l (by_tens_within f (n / 10) (omega arith)))

  pub by_tens : (n : ℕ) → P n
  by_tens n = by_tens_within n n (omega arith)

-- how many digits there are
pub places_one : (n : ℕ) → n < 10 → length (digits n) ≡ 1
places_one n h = rw (digits_one n h)

pub places_more : (n : ℕ) → 10 ≤ n → length (digits n) ≡ length (digits (n / 10)) + 1
places_more n h = ap length (digits_more n h) ∙ length-append (digits (n / 10)) (n % 10 ∷ [])

pub places_two : (n : ℕ) → 10 ≤ n → n < 100 → length (digits n) ≡ 2
places_two n h l = omega (arith, places_more n h, places_one (n / 10) (omega arith))

pub places_three : (n : ℕ) → 100 ≤ n → n < 1000 → length (digits n) ≡ 3
places_three n h l = omega (arith, places_more n (omega arith), places_two (n / 10) (omega arith) (omega arith))

pub places_four : (n : ℕ) → 1000 ≤ n → n < 10000 → length (digits n) ≡ 4
places_four n h l = omega (arith, places_more n (omega arith), places_three (n / 10) (omega arith) (omega arith))

pub places_four_more : (n : ℕ) → 10000 ≤ n → length (digits n) ≡ length (digits (n / 10000)) + 4
places_four_more n h =
    let e : n / 10 / 10 / 10 / 10 ≡ n / 10000 = omega arith in
    let last = rw e at (places_more (n / 10 / 10 / 10) (omega arith)) in
    omega (arith, places_more n (omega arith), places_more (n / 10) (omega arith), places_more (n / 10 / 10) (omega arith), last)

pub places_some : (n : ℕ) → 1 ≤ length (digits n)
places_some = by_tens (λ (n : ℕ). 1 ≤ length (digits n)) (λ n h. omega (arith, places_one n h)) (λ n h p. omega (arith, places_more n h))

-- a number of one digit is below ten, one of more is not
pub one_place : (n : ℕ) → length (digits n) ≤ 1 → n < 10
one_place n h = below_or n 10 (λ l. l) (λ l. absurd (omega (arith, places_more n l, places_some (n / 10))))

pub more_places : (n : ℕ) → 2 ≤ length (digits n) → 10 ≤ n
more_places n h = below_or n 10 (λ l. absurd (omega (arith, places_one n l))) (λ l. l)

-- a number below ten to a power has no more digits than the power
pub places_at_most : (k n : ℕ) → n < 10 ^ (k + 1) → length (digits n) ≤ k + 1
places_at_most zero n h = omega (arith, places_one n (omega arith))
places_at_most (suc k) n h =
    let e : suc k + 1 ≡ (k + 1) + 1 = omega arith in
    let p : n < 10 ^ (k + 1) * 10 = rw (e, pow-add 10 (k + 1) 1) at h in
    below_or n 10 (λ l. omega (arith, places_one n l)) (λ l. omega (arith, places_more n l, places_at_most k (n / 10) (omega arith)))
