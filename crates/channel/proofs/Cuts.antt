-- The sheets of an input: the first and then those behind it; and those of its parts, where the first part is of whole sheets.
use mathlib.Core.Path.{◌≡◌, refl, sym, ap, ap₂, ◌∙◌}
use mathlib.Core.Bool.{Bool, true, false}
use mathlib.Core.List.{List, [], ◌∷◌, ◌++◌, append-nil, flatten}
use Prim.Native.Nat.{ℕ, zero, suc, ◌+◌, ◌-◌, ◌*◌, ◌≤◌, ◌<◌, min}
use native.Mathlib.Omega.{arith}
use borrow.Author.Tests.{leb-true, leb-false}
use lib.Dec.{leb}
use lib.ListN.{length, take, drop, length-append, length-drop, take-append-drop, drop_of_length-le}
use lib.Seq.{take-append-le, drop-append-le, take_all}
use Rattle.laws.specs.Rounding.{up}
use Rattle.channel.specs.Text.{first_sheets, sheets_of}

counted : (m n : ℕ) (input : List ℕ) → m ≡ n → first_sheets m input ≡ first_sheets n input
counted m n input e = ap (λ (k : ℕ). first_sheets k input) e

pub next_sheet : (input : List ℕ) → 0 < length input → sheets_of input ≡ take 28 input ∷ sheets_of (drop 28 input)
unfolding sheets_of first_sheets
next_sheet input some =
    let behind : up (length (drop 28 input)) 28 ≡ up (length input - 28) 28 = ap (λ (n : ℕ). up n 28) (length-drop 28 input) in
    let one : up (length input) 28 ≡ suc (up (length input - 28) 28) = omega arith in
    rw (behind) (counted (up (length input) 28) (suc (up (length input - 28) 28)) input one)

pub no_sheet : (input : List ℕ) → length input ≡ 0 → sheets_of input ≡ []
unfolding sheets_of first_sheets
no_sheet input none = let zero-up : up (length input) 28 ≡ 0 = omega arith in counted (up (length input) 28) 0 input zero-up

-- the first sheet of some bytes, as the library cuts it off, and then those behind it
module _ (rest sheet behind : List ℕ) (parts : rest ≡ sheet ++ behind) (long : length sheet ≡ min 28 (length rest)) (some : 0 < length rest) where
  lengths : length rest ≡ length sheet + length behind
  lengths = ap length parts ∙ length-append sheet behind

  sheet_is : take 28 rest ≡ sheet
  sheet_is = go (leb 28 (length rest)) refl
    where
      go : (b : Bool) → leb 28 (length rest) ≡ b → take 28 rest ≡ sheet
      go true whole =
          ap (take 28) parts
          ∙ take-append-le 28 sheet behind (omega (arith, long, leb-true 28 (length rest) whole))
          ∙ take_all 28 sheet (omega (arith, long))
      go false short =
          let none : behind ≡ [] = drop_of_length-le behind {i = 0} (omega (arith, lengths, long, leb-false 28 (length rest) short)) in
          ap (take 28) (parts ∙ ap (λ (bytes : List ℕ). sheet ++ bytes) none ∙ append-nil sheet) ∙ take_all 28 sheet (omega (arith, long))

  behind_is : sheets_of (drop 28 rest) ≡ sheets_of behind
  behind_is = go (leb 28 (length rest)) refl
    where
      go : (b : Bool) → leb 28 (length rest) ≡ b → sheets_of (drop 28 rest) ≡ sheets_of behind
      go true whole =
          ap sheets_of
          (ap (drop 28) parts
          ∙ drop-append-le 28 sheet behind (omega (arith, long, leb-true 28 (length rest) whole))
          ∙ ap (λ (bytes : List ℕ). bytes ++ behind) (drop_of_length-le sheet {i = 28} (omega (arith, long))))
      go false short =
          no_sheet (drop 28 rest) (omega (arith, length-drop 28 rest, leb-false 28 (length rest) short))
          ∙ sym (no_sheet behind (omega (arith, lengths, long, leb-false 28 (length rest) short)))

  pub first_cut : sheets_of rest ≡ sheet ∷ sheets_of behind
  first_cut = next_sheet rest some ∙ ap₂ ◌∷◌ sheet_is behind_is

-- in two parts, the first of m whole sheets
pub in_two : (m : ℕ) (first second : List ℕ) → length first ≡ 28 * m → sheets_of (first ++ second) ≡ sheets_of first ++ sheets_of second
in_two zero first second e =
    rw (drop_of_length-le first {i = 0} (omega arith), no_sheet [] refl)
in_two (suc m) first second e =
    next_sheet (first ++ second) (omega (arith, length-append first second))
    ∙ ap₂ ◌∷◌ (take-append-le 28 first second (omega arith)) (ap sheets_of (drop-append-le 28 first second (omega arith)) ∙ in_two m (drop 28 first) second (omega (arith, length-drop 28 first)))
    ∙ sym (ap (λ (sheets : List (List ℕ)). sheets ++ sheets_of second) (next_sheet first (omega arith)))

-- the sheets are the input cut, as many as 28 bytes go into it, rounded up
joined_first : (n : ℕ) (input : List ℕ) → length input ≤ 28 * n → flatten (first_sheets n input) ≡ input
unfolding first_sheets flatten
joined_first zero input h = sym (drop_of_length-le input {i = 0} (omega arith))
joined_first (suc n) input h =
    ap (λ (rest : List ℕ). take 28 input ++ rest) (joined_first n (drop 28 input) (omega (arith, length-drop 28 input))) ∙ take-append-drop 28 input

pub joined : (input : List ℕ) → flatten (sheets_of input) ≡ input
unfolding sheets_of
joined input = joined_first (up (length input) 28) input (omega arith)

first_many : (n : ℕ) (input : List ℕ) → length (first_sheets n input) ≡ n
unfolding first_sheets
first_many zero input = refl
first_many (suc n) input = ap suc (first_many n (drop 28 input))

pub how_many : (input : List ℕ) → length (sheets_of input) ≡ up (length input) 28
unfolding sheets_of
how_many input = first_many (up (length input) 28) input
