-- Laws of a rounded quotient: that it is the least, a common factor, a quotient in two steps, and one in two parts.
use mathlib.Core.Path.{◌≡◌, sym, ap, ◌∙◌}
use Prim.Native.Nat.{ℕ, ◌+◌, ◌-◌, ◌*◌, ◌/◌, ◌%◌, ◌≤◌, ◌<◌}
use native.Mathlib.Nat.{le_antisymm, le_refl, mul_assoc, mul_comm, add-mul, div-add-mod', mul-le-mul_left, le_of_mul-le-mul_left, mul-pos, add-mul-div_right, add_comm}
use native.Mathlib.Omega.{arith}
use Rattle.laws.specs.Extremes.{Least}
use Rattle.laws.specs.Rounding.{up}
use Rattle.laws.proofs.Rounding.{up_le, up_reaches}

-- the rounded quotient is the least number whose multiple reaches a
pub up_least : (a k : ℕ) → 0 < k → Least (λ (x : ℕ). a ≤ x * k) (up a k)
up_least a k h = record { holds = up_reaches a k h; least = λ x p. (up_le a k x h).1 p }

-- numbers that are at most the same numbers are one
same_bounds : (a b : ℕ) → ((x : ℕ) → a ≤ x → b ≤ x) → ((x : ℕ) → b ≤ x → a ≤ x) → a ≡ b
same_bounds a b f g = le_antisymm (g b (le_refl b)) (f a (le_refl a))

-- x * (f * b) with the factor in front
factor_first : (x f b : ℕ) → x * (f * b) ≡ f * (x * b)
factor_first x f b = sym (mul_assoc x f b) ∙ ap (λ (n : ℕ). n * b) (mul_comm x f) ∙ mul_assoc f x b

-- a common factor may go
pub up_factor : (f a b : ℕ) → 0 < f → 0 < b → up (f * a) (f * b) ≡ up a b
up_factor f a b hf hb =
    same_bounds (up (f * a) (f * b)) (up a b)
    (λ x h. (up_le a b x hb).1 (le_of_mul-le-mul_left {k = f} (rw factor_first at ((up_le (f * a) (f * b) x (mul-pos hf hb)).0 h)) hf))
    (λ x h. (up_le (f * a) (f * b) x (mul-pos hf hb)).1 (rw factor_first (mul-le-mul_left f ((up_le a b x hb).0 h))))

-- by a product: by one factor, and then by the other
pub up_twice : (a b d : ℕ) → 0 < b → 0 < d → up (up a b) d ≡ up a (b * d)
up_twice a b d hb hd =
    same_bounds (up (up a b) d) (up a (b * d))
    (λ x h. (up_le a (b * d) x (mul-pos hb hd)).1 (let q : a ≤ x * d * b = (up_le a b (x * d) hb).0 ((up_le (up a b) d x hd).0 h) in rw (mul_comm b d, ← mul_assoc x d b) q))
    (λ x h. (up_le (up a b) d x hd).1 ((up_le a b (x * d) hb).1 (let q : a ≤ x * (b * d) = (up_le a (b * d) x (mul-pos hb hd)).0 h in rw (mul_assoc x d b, mul_comm d b) q)))

-- a product over d in two parts: the whole quotients of a factor, and its rest
pub up_parts : (a s d : ℕ) → 0 < d → up (a * s) d ≡ a / d * s + up (a % d * s) d
up_parts a s d hd =
    let split : a * s ≡ a / d * d * s + a % d * s = ap (λ (n : ℕ). n * s) (sym (div-add-mod' a d)) ∙ add-mul (a / d * d) (a % d) s in
    let turned : a / d * d * s ≡ a / d * s * d = mul_assoc (a / d) d s ∙ ap (λ (n : ℕ). a / d * n) (mul_comm d s) ∙ sym (mul_assoc (a / d) s d) in
    let parts : a * s + (d - 1) ≡ a % d * s + (d - 1) + a / d * s * d = omega arith in
    ap (λ (n : ℕ). n / d) parts ∙ add-mul-div_right (a % d * s + (d - 1)) (a / d * s) hd ∙ add_comm (up (a % d * s) d) (a / d * s)
