-- The text of a number means it: no two numbers have the same text, and a minus stands in it exactly when it is negative.
-- Every byte of a count's text is a digit's, and the digits mean the count.
use mathlib.Core.Path.{◌≡◌, refl, ap, subst, sym, ◌∙◌}
use mathlib.Core.List.{List, [], ◌∷◌, map, Memᴰ}
use mathlib.Core.Logic.{◌↔◌}
use Prim.Native.Nat.{ℕ, suc, ◌+◌, ◌-◌, ◌≤◌, ◌<◌}
use native.Mathlib.Omega.{arith}
use lib.IntN.{ℤ, pos, negsuc}
use mir.Facts.{ltb_yes}
use lib.Signed.{◌<ℤ◌}
use Rattle.laws.specs.Each.{Each}
use Rattle.lines.specs.Decimals.{digits, value_of, zero_byte, minus, byte_of, count_text, number_text}
use Rattle.laws.proofs.Each.{each_map, each_member}
use Rattle.lines.proofs.decimals.Meaning.{digits_value, digits_each}

-- the bytes `0` to `9`
abbrev pub DigitByte : ℕ → Type 0
DigitByte b = (zero_byte ≤ b) × (b < zero_byte + 10)

pub count_bytes : (n : ℕ) → Each DigitByte (count_text n)
unfolding count_text
count_bytes n = each_map (λ (d : ℕ). d < 10) DigitByte byte_of (λ d h. (omega arith, omega arith)) (digits n) (digits_each n)

-- the digit of a byte
abbrev digit_of : ℕ → ℕ
digit_of b = b - zero_byte

digits_back : (ds : List ℕ) → map digit_of (map byte_of ds) ≡ ds
digits_back [] = refl
digits_back (d ∷ ds) = let e : zero_byte + d - zero_byte ≡ d = omega arith in rw (digits_back ds, e)

count_value : (n : ℕ) → value_of (map digit_of (count_text n)) ≡ n
unfolding count_text
count_value n = ap value_of (digits_back (digits n)) ∙ digits_value n

pub count_text_one : (m n : ℕ) → count_text m ≡ count_text n → m ≡ n
count_text_one m n e = sym (count_value m) ∙ ap (λ (text : List ℕ). value_of (map digit_of text)) e ∙ count_value n

no_minus : (n : ℕ) → Memᴰ minus (count_text n) → ⊥
no_minus n m = let d = each_member DigitByte minus (count_text n) (count_bytes n) m in omega arith

-- a text that begins with a minus is no count's
not_count : (n : ℕ) (text : List ℕ) → count_text n ≡ minus ∷ text → ⊥
not_count n text e = no_minus n (subst (Memᴰ minus) (sym e) (Memᴰ.head refl))

pub number_text_one : (y z : ℤ) → number_text y ≡ number_text z → y ≡ z
unfolding number_text
number_text_one (pos m) (pos n) e = ap pos (count_text_one m n e)
number_text_one (pos m) (negsuc n) e = absurd (not_count m (count_text (suc n)) e)
number_text_one (negsuc m) (pos n) e = absurd (not_count n (count_text (suc m)) (sym e))
number_text_one (negsuc m) (negsuc n) e =
    let s : suc m ≡ suc n = count_text_one (suc m) (suc n) cc in
    cc

pub minus_negative : (z : ℤ) → Memᴰ minus (number_text z) ↔ (z <ℤ pos 0)
unfolding number_text
minus_negative (pos n) = (λ m. absurd (no_minus n m), λ l. let h : n < 0 = ltb_yes l.lt in absurd (omega arith))
minus_negative (negsuc n) = (λ m. record { lt = tt }, λ l. Memᴰ.head refl)
