-- The digits of a number are that number in decimal, and nothing else is. A text has one meaning.
-- By induction on divisions by ten; digits read behind a number are put behind its digits.
use mathlib.Core.Path.{◌≡◌, refl, ap, sym, ◌∙◌}
use mathlib.Core.List.{List, [], ◌∷◌, ◌++◌, append_assoc, append-nil}
use Prim.Native.Nat.{ℕ, zero, suc, ◌+◌, ◌*◌, ◌/◌, ◌%◌, ◌<◌}
use native.Mathlib.Omega.{arith}
use lib.ListN.{length, get_or, get_or-append}
use Rattle.laws.specs.Each.{Each}
use Rattle.lines.specs.Decimals.{digits, value_behind, value_of, Decimal}
use Rattle.laws.proofs.Each.{each_append}
use Rattle.lines.proofs.decimals.Digits.{digits_one, digits_more, by_tens, places_some}

-- a last digit more
value_last : (ds : List ℕ) (read d : ℕ) → value_behind read (ds ++ d ∷ []) ≡ 10 * value_behind read ds + d
value_last [] read d = refl
value_last (e ∷ ds) read d = value_last ds (10 * read + e) d

pub digits_value : (n : ℕ) → value_of (digits n) ≡ n
digits_value =
    by_tens (λ (n : ℕ). value_of (digits n) ≡ n)
    (λ n h. rw (digits_one n h) (omega arith))
    (λ n h e. rw (digits_more n h, value_last (digits (n / 10)) 0 (n % 10)) (omega arith))

pub digits_each : (n : ℕ) → Each (λ (d : ℕ). d < 10) (digits n)
digits_each =
    by_tens (λ (n : ℕ). Each (λ (d : ℕ). d < 10) (digits n))
    (λ n h. rw (digits_one n h) (h, tt))
    (λ n h e. rw (digits_more n h) (each_append (λ (d : ℕ). d < 10) (digits (n / 10)) (n % 10 ∷ []) e (omega arith, tt)))

-- a number from ten on begins as its tenth does, which is not 0
leading : (n : ℕ) → get_or (digits n) 0 0 ≡ 0 → digits n ≡ 0 ∷ []
leading =
    by_tens (λ (n : ℕ). get_or (digits n) 0 0 ≡ 0 → digits n ≡ 0 ∷ [])
    (λ n h e. digits_one n h ∙ ap (λ (d : ℕ). d ∷ []) (rw (digits_one n h) at e))
    (λ n h tenth e.
    let first = rw (digits_more n h, get_or-append (digits (n / 10)) (n % 10 ∷ []) 0 0 (omega (arith, places_some (n / 10)))) at e in
    absurd (omega (arith, digits_value (n / 10), ap value_of (tenth first))))

pub digits_decimal : (n : ℕ) → Decimal (digits n) n
digits_decimal n = record { each_a_digit = digits_each n; no_leading_zero = leading n; value = digits_value n }

-- digits behind a number that is not 0
digits_behind : (ds : List ℕ) (read : ℕ) → 0 < read → Each (λ (d : ℕ). d < 10) ds → digits (value_behind read ds) ≡ digits read ++ ds
digits_behind [] read some each = sym (append-nil (digits read))
digits_behind (d ∷ ds) read some each =
    let small = each.0 in
    let tenth : (10 * read + d) / 10 ≡ read = omega arith in
    let last : (10 * read + d) % 10 ≡ d = omega arith in
    rw (digits_behind ds (10 * read + d) (omega arith) each.1, digits_more (10 * read + d) (omega arith), tenth, last)
    (append_assoc (digits read) (d ∷ []) ds)

pub decimal_only : (n : ℕ) (ds : List ℕ) → Decimal ds n → ds ≡ digits n
decimal_only n [] p = absurd (omega (arith, ap length (p.no_leading_zero refl)))
decimal_only n (zero ∷ []) p = rw (← p.value) (sym (digits_one 0 (omega arith)))
decimal_only n (zero ∷ e ∷ ds) p = absurd (omega (arith, ap length (p.no_leading_zero refl)))
decimal_only n (suc d ∷ ds) p =
    let first : 10 * 0 + suc d ≡ suc d = omega arith in
    rw (← p.value, first, digits_behind ds (suc d) (omega arith) p.each_a_digit.1, digits_one (suc d) p.each_a_digit.0)
