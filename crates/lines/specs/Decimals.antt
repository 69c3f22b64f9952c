-- A number in decimal: its digits, what they mean, and its text in bytes.
use Rattle.std.specs.Prelude.{ℕ, zero, suc, ◌+◌, ◌*◌, ◌/◌, ◌%◌, ◌<◌, ◌≡◌, List, [], ◌∷◌, ◌++◌, map, ℤ, pos, negsuc, get_or}
use Rattle.laws.specs.Choice.{ifᵇ◌then◌else◌, ◌<ᵇ◌}
use Rattle.laws.specs.Each.{Each}

-- the digits of n, the first one first, found by at most so many divisions by ten
unfoldable pub digits_within : ℕ → ℕ → List ℕ
digits_within zero n = n ∷ []
digits_within (suc divisions) n = ifᵇ n <ᵇ 10 then n ∷ [] else (digits_within divisions (n / 10) ++ n % 10 ∷ [])

-- the digits of n; n divisions are always enough
unfoldable pub digits : ℕ → List ℕ
digits n = digits_within n n

-- the number that digits mean, read from the first to the last behind a number that was read already
abbrev pub value_behind : ℕ → List ℕ → ℕ
value_behind read [] = read
value_behind read (d ∷ ds) = value_behind (10 * read + d) ds

abbrev pub value_of : List ℕ → ℕ
value_of ds = value_behind 0 ds

-- ds is the number n in decimal: a first digit 0 is the only one
pub record Decimal (ds : List ℕ) (n : ℕ) : Type 0 where
  pub each_a_digit : Each (λ (d : ℕ). d < 10) ds
  pub no_leading_zero : get_or ds 0 0 ≡ 0 → ds ≡ 0 ∷ []
  pub value : value_of ds ≡ n

-- the bytes of `0` and `-`
abbrev pub zero_byte : ℕ
zero_byte = 48

abbrev pub minus : ℕ
minus = 45

-- the byte of a digit
abbrev pub byte_of : ℕ → ℕ
byte_of d = zero_byte + d

-- the text of a count
unfoldable pub count_text : ℕ → List ℕ
count_text n = map byte_of (digits n)

-- the text of a signed number: `-` before a negative one
unfoldable pub number_text : ℤ → List ℕ
number_text (pos n) = count_text n
number_text (negsuc n) = minus ∷ count_text (suc n)
