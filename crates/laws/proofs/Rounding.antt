-- Laws of rounding up.
use mathlib.Core.Logic.{◌↔◌}
use mathlib.Core.Path.{◌≡◌, ◌∙◌}
use Prim.Native.Nat.{ℕ, ◌+◌, ◌-◌, ◌*◌, ◌≤◌, ◌<◌}
use native.Mathlib.Nat.{div-lt_iff_lt-mul, le-div_iff_mul-le, le_antisymm, le_refl}
use native.Mathlib.Omega.{arith}
use Rattle.std.specs.Int.{div_ceil}
use Rattle.std.proofs.lemmas.Grind.{div_ceil_times}
use Rattle.laws.specs.Rounding.{up}

-- a / k rounded up is the least x whose multiple x * k reaches a
pub up_le : (a k x : ℕ) → 0 < k → (up a k ≤ x) ↔ (a ≤ x * k)
up_le a k x h = (
  (λ p. let q : a + (k - 1) < (x + 1) * k = (div-lt_iff_lt-mul h).0 (let r : up a k < x + 1 = omega arith in r) in omega arith),
  (λ p. let q : up a k < x + 1 = (div-lt_iff_lt-mul h).1 (let r : a + (k - 1) < (x + 1) * k = omega arith in r) in omega arith),
)

-- it reaches a
pub up_reaches : (a k : ℕ) → 0 < k → a ≤ up a k * k
up_reaches a k h = (up_le a k (up a k) h).0 (le_refl _)

-- it never falls as the number grows
pub up_mono : {a b : ℕ} (k : ℕ) → 0 < k → a ≤ b → up a k ≤ up b k
up_mono {a} {b} k h p = (up_le a k (up b k) h).1 (let q : b ≤ up b k * k = up_reaches b k h in omega arith)

-- the language's quotient that is rounded up
pub ceiling_is : (a b : ℕ) → 0 < b → div_ceil a b ≡ up a b
ceiling_is a b some =
    let times = div_ceil_times a b some in
    le_antisymm ((le-div_iff_mul-le some).1 (omega (arith, times.1))) ((up_le a b (div_ceil a b) some).1 times.0)

-- what was divided so
pub rounded_up : (a b n : ℕ) → 0 < b → n ≡ div_ceil a b → n ≡ up a b
rounded_up a b n some is = is ∙ ceiling_is a b some
