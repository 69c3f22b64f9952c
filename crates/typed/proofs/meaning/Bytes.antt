-- The bytes of a line: none below the space, so no newline, and the first a small letter; and how many there are at most.
-- The table's are tested by computing, the digits' are known.
use mathlib.Core.Path.{◌≡◌, ap, ◌∙◌}
use mathlib.Core.Bool.{Bool, true, false, ◌&&◌}
use mathlib.Core.List.{List, [], ◌∷◌, ◌++◌, map, flatten}
use Prim.Native.Nat.{ℕ, zero, suc, ◌+◌, ◌-◌, ◌*◌, ◌/◌, ◌%◌, ◌^◌, ◌≤◌, ◌<◌}
use native.Mathlib.Nat.{min-le_left}
use native.Mathlib.Omega.{arith}
use lib.Dec.{T, leb→le}
use lib.ListN.{length, get_or, take, drop, length-append, length-take, get_or-append}
use Rattle.laws.specs.Choice.{ifᵇ◌then◌else◌, ◌≤ᵇ◌, ◌<ᵇ◌, ◌=ᵇ◌}
use Rattle.laws.specs.Each.{Each}
use Rattle.laws.specs.Every.{every}
use Rattle.laws.proofs.Each.{each_append, each_implied}
use Rattle.laws.proofs.Every.{both_left, both_right, every_at}
use Rattle.lines.specs.Decimals.{digits_within, digits, byte_of, minus, count_text}
use Rattle.lines.specs.Lines.{space}
use Rattle.lines.proofs.Promises.{count_fits}
use Rattle.lines.proofs.decimals.Digits.{below_or}
use Rattle.lines.proofs.decimals.Texts.{DigitByte, count_bytes}
use Rattle.typed.specs.Rows.{bytes_of, count, rows, row_at, values_of}
use Rattle.typed.specs.Lines.{line_bytes, expected_bytes, token, point, tenths_text, hundredths_text, level_zero, level_text, word_text, figure_by, figure_text, behind, unit_by, unit_text, name_text, front_text, row_text, line_text, blank_row, blank_text, span_text, lines_text, expected_text}
use Rattle.typed.specs.declared.Kind.{Kind}
use Rattle.typed.specs.declared.Kind.TheVariants.{Whole, Tenths, Hundredths, Words, Level}
use Rattle.typed.proofs.meaning.Names.{rest, line_parts}
use Rattle.typed.proofs.meaning.Sample.{expected_texts_lem, blank_lines_lem}
use Rattle.typed.proofs.meaning.Starred.{texts_from, in_each_row, expected_texts, blank_lines}
use Rattle.typed.proofs.table.Values.{no_row, past_rows}

-- a space, a sign, a digit or a letter
abbrev pub Plain : ℕ → Type 0
Plain b = (space ≤ b) × (b ≤ 126)

-- parts of plain bytes
each_take : (k : ℕ) (s : List ℕ) → Each Plain s → Each Plain (take k s)
each_take zero s p = tt
each_take (suc k) [] p = tt
each_take (suc k) (b ∷ s) p = (p.0, each_take k s p.1)

each_drop : (k : ℕ) (s : List ℕ) → Each Plain s → Each Plain (drop k s)
each_drop zero s p = p
each_drop (suc k) [] p = tt
each_drop (suc k) (b ∷ s) p = each_drop k s p.1

each_token : (s : List ℕ) → Each Plain s → Each Plain (token s)
unfolding token
each_token [] p = tt
each_token (b ∷ s) p = go (b =ᵇ space) (each_token s p.1)
  where
    go : (t : Bool) → Each Plain (token s) → Each Plain (ifᵇ t then [] else b ∷ token s)
    go true q = tt
    go false q = (p.0, q)

-- tested by computing
plain : List ℕ → Bool
plain [] = true
plain (b ∷ s) = ((space ≤ᵇ b) && (b ≤ᵇ 126)) && plain s

plain_each : (s : List ℕ) → T (plain s) → Each Plain s
unfolding plain
plain_each [] t = tt
plain_each (b ∷ s) t =
    let both = both_left ((space ≤ᵇ b) && (b ≤ᵇ 126)) (plain s) t in (
      (leb→le space b (both_left (space ≤ᵇ b) (b ≤ᵇ 126) both), leb→le b 126 (both_right (space ≤ᵇ b) (b ≤ᵇ 126) both)),
      plain_each s (both_right ((space ≤ᵇ b) && (b ≤ᵇ 126)) (plain s) t),
    )

plain_row : ℕ → Bool
plain_row i = plain (name_text (row_at i)) && (plain (row_at i).unit && plain (row_at i).words)

plain_test : T (every count plain_row)
unfolding plain_row plain name_text token row_at rows flatten
plain_test = tt

module _ (i : ℕ) (h : i < count) where
  tested : T (plain_row i)
  tested = every_at count plain_row plain_test i h

  name_plain : Each Plain (name_text (row_at i))
  unfolding plain_row
  name_plain = plain_each (name_text (row_at i)) (both_left (plain (name_text (row_at i))) _ tested)

  unit_plain : Each Plain (row_at i).unit
  unfolding plain_row
  unit_plain = plain_each (row_at i).unit (both_left (plain (row_at i).unit) _ (both_right (plain (name_text (row_at i))) _ tested))

  words_plain : Each Plain (row_at i).words
  unfolding plain_row
  words_plain = plain_each (row_at i).words (both_right (plain (row_at i).unit) _ (both_right (plain (name_text (row_at i))) _ tested))

-- the digits
count_plain : (n : ℕ) → Each Plain (count_text n)
count_plain n = each_implied DigitByte Plain (λ b d. (omega arith, omega arith)) (count_text n) (count_bytes n)

digit_plain : (d : ℕ) → d < 10 → Each Plain (byte_of d ∷ [])
digit_plain d h = ((omega arith, omega arith), tt)

point_plain : Each Plain (point ∷ [])
point_plain = ((omega arith, omega arith), tt)

tenths_plain : (n : ℕ) → Each Plain (tenths_text n)
unfolding tenths_text
tenths_plain n =
    each_append Plain (count_text (n / 10) ++ point ∷ []) (byte_of (n % 10) ∷ [])
    (each_append Plain (count_text (n / 10)) (point ∷ []) (count_plain (n / 10)) point_plain) (digit_plain (n % 10) (omega arith))

hundredths_plain : (n : ℕ) → Each Plain (hundredths_text n)
unfolding hundredths_text
hundredths_plain n =
    each_append Plain ((count_text (n / 100) ++ point ∷ []) ++ byte_of (n / 10 % 10) ∷ []) (byte_of (n % 10) ∷ [])
    (each_append Plain (count_text (n / 100) ++ point ∷ []) (byte_of (n / 10 % 10) ∷ [])
    (each_append Plain (count_text (n / 100)) (point ∷ []) (count_plain (n / 100)) point_plain) (digit_plain (n / 10 % 10) (omega arith)))
    (digit_plain (n % 10) (omega arith))

level_plain : (n : ℕ) → Each Plain (level_text n)
unfolding level_text plain
level_plain n = go (n =ᵇ 0) (n <ᵇ level_zero)
  where
    given : (s : List ℕ) → Each Plain s → Each Plain (bytes_of "given " ++ s)
    given s p = each_append Plain (bytes_of "given ") s (plain_each (bytes_of "given ") tt) p

    go : (a b : Bool)
        → Each Plain
        (ifᵇ a then bytes_of "record" else bytes_of "given " ++ (ifᵇ b then minus ∷ count_text (level_zero - n) else count_text (n - level_zero)))
    go true b = plain_each (bytes_of "record") tt
    go false true = given (minus ∷ count_text (level_zero - n)) ((omega arith, omega arith), count_plain (level_zero - n))
    go false false = given (count_text (n - level_zero)) (count_plain (n - level_zero))

figure_plain : (k : Kind) (words : List ℕ) (n : ℕ) → Each Plain words → Each Plain (figure_by k words n)
unfolding word_text
figure_plain Whole words n p = count_plain n
figure_plain Tenths words n p = tenths_plain n
figure_plain Hundredths words n p = hundredths_plain n
figure_plain Words words n p = each_token (take 16 (drop (16 * n) words)) (each_take 16 (drop (16 * n) words) (each_drop (16 * n) words p))
figure_plain Level words n p = level_plain n

behind_plain : (unit : List ℕ) → Each Plain unit → Each Plain (behind unit)
unfolding behind
behind_plain unit p = go (get_or unit 0 0 =ᵇ space)
  where
    go : (t : Bool) → Each Plain (ifᵇ t then [] else space ∷ token unit)
    go true = tt
    go false = ((omega arith, omega arith), each_token unit p)

unit_by_plain : (k : Kind) (unit : List ℕ) (n : ℕ) → Each Plain unit → Each Plain (unit_by k unit n)
unit_by_plain Whole unit n p = behind_plain unit p
unit_by_plain Tenths unit n p = behind_plain unit p
unit_by_plain Hundredths unit n p = behind_plain unit p
unit_by_plain Words unit n p = behind_plain unit p
unit_by_plain Level unit n p = go (n =ᵇ 0)
  where
    go : (t : Bool) → Each Plain (ifᵇ t then [] else behind unit)
    go true = tt
    go false = behind_plain unit p

pub line_plain : (i n : ℕ) → i < count → Each Plain (line_text i n)
unfolding figure_text unit_text
line_plain i n h =
    let r = row_at i in
    rw (line_parts i n)
    (each_append Plain (name_text r) (rest i n) (name_plain i h)
    (each_append Plain (figure_by r.kind r.words n) (unit_by r.kind r.unit n) (figure_plain r.kind r.words n (words_plain i h))
    (unit_by_plain r.kind r.unit n (unit_plain i h))))

pub no_control : (i n : ℕ) → i < count → Each (λ (b : ℕ). space ≤ b) (line_text i n)
no_control i n h = each_implied Plain (λ (b : ℕ). space ≤ b) (λ b p. p.0) (line_text i n) (line_plain i n h)

-- the first byte is the name's
letter_first : ℕ → Bool
letter_first i = ((97 ≤ᵇ get_or (name_text (row_at i)) 0 0) && (get_or (name_text (row_at i)) 0 0 ≤ᵇ 122)) && (1 ≤ᵇ length (name_text (row_at i)))

letter_test : T (every count letter_first)
unfolding letter_first name_text token row_at rows
letter_test = tt

pub first_byte : (i n : ℕ) → i < count → (97 ≤ get_or (line_text i n) 0 0) × (get_or (line_text i n) 0 0 ≤ 122)
unfolding letter_first
first_byte i n h =
    let name = name_text (row_at i) in
    let t = every_at count letter_first letter_test i h in
    let some = leb→le 1 (length name) (both_right ((97 ≤ᵇ get_or name 0 0) && (get_or name 0 0 ≤ᵇ 122)) (1 ≤ᵇ length name) t) in
    let letter = both_left ((97 ≤ᵇ get_or name 0 0) && (get_or name 0 0 ≤ᵇ 122)) _ t in
    let e : get_or (line_text i n) 0 0 ≡ get_or name 0 0 =
    ap (λ (l : List ℕ). get_or l 0 0) (line_parts i n) ∙ get_or-append name (rest i n) 0 0 some in
    rw e (
      leb→le 97 (get_or name 0 0) (both_left (97 ≤ᵇ get_or name 0 0) (get_or name 0 0 ≤ᵇ 122) letter),
      leb→le (get_or name 0 0) 122 (both_right (97 ≤ᵇ get_or name 0 0) (get_or name 0 0 ≤ᵇ 122) letter),
    )

pub some_bytes : (i n : ℕ) → 0 < length (line_text i n)
unfolding name_text
some_bytes i n = rw (line_parts i n) (simp length-append (omega arith))

-- how long its parts are at most
token_most : (s : List ℕ) → length (token s) ≤ length s
unfolding token
token_most [] = omega arith
token_most (b ∷ s) = go (b =ᵇ space) (token_most s)
  where
    go : (t : Bool) → length (token s) ≤ length s → length (ifᵇ t then [] else b ∷ token s) ≤ suc (length s)
    go true h = omega arith
    go false h = omega arith

behind_most : (unit : List ℕ) → length (behind unit) ≤ length unit + 1
unfolding behind
behind_most unit = go (get_or unit 0 0 =ᵇ space)
  where
    go : (t : Bool) → length (ifᵇ t then [] else space ∷ token unit) ≤ length unit + 1
    go true = omega arith
    go false = omega (arith, token_most unit)

unit_most : (k : Kind) (unit : List ℕ) (n : ℕ) → length (unit_by k unit n) ≤ length unit + 1
unit_most Whole unit n = behind_most unit
unit_most Tenths unit n = behind_most unit
unit_most Hundredths unit n = behind_most unit
unit_most Words unit n = behind_most unit
unit_most Level unit n = go (n =ᵇ 0)
  where
    go : (t : Bool) → length (ifᵇ t then [] else behind unit) ≤ length unit + 1
    go true = omega arith
    go false = behind_most unit

level_most : (n : ℕ) → n < 2 ^ 64 → length (level_text n) ≤ 27
unfolding level_text
level_most n h = go (n =ᵇ 0) (n <ᵇ level_zero)
  where
    go : (a b : Bool)
        → length
        (ifᵇ a then bytes_of "record" else bytes_of "given " ++ (ifᵇ b then minus ∷ count_text (level_zero - n) else count_text (n - level_zero)))
        ≤ 27
    go true b = omega arith
    go false true = omega (arith, count_fits (level_zero - n) (omega arith))
    go false false = omega (arith, count_fits (n - level_zero) (omega arith))

figure_most : (k : Kind) (words : List ℕ) (n : ℕ) → n < 2 ^ 64 → length (figure_by k words n) ≤ 27
unfolding word_text tenths_text hundredths_text
figure_most Whole words n h = omega (arith, count_fits n h)
figure_most Tenths words n h = simp length-append (omega (arith, count_fits (n / 10) (omega arith)))
figure_most Hundredths words n h = simp length-append (omega (arith, count_fits (n / 100) (omega arith)))
figure_most Words words n h =
    omega (arith, token_most (take 16 (drop (16 * n) words)), length-take 16 (drop (16 * n) words), min-le_left 16 (length (drop (16 * n) words)))
figure_most Level words n h = level_most n h

short_row : ℕ → Bool
short_row i = (length (name_text (row_at i)) ≤ᵇ 17) && (length (row_at i).unit ≤ᵇ 16)

short_test : T (every count short_row)
unfolding short_row name_text token row_at rows
short_test = tt

pub line_most : (i n : ℕ) → i < count → n < 2 ^ 64 → length (line_text i n) ≤ 61
unfolding short_row figure_text unit_text
line_most i n h l =
    let r = row_at i in
    let t = every_at count short_row short_test i h in
    let name = leb→le (length (name_text r)) 17 (both_left (length (name_text r) ≤ᵇ 17) _ t) in
    let unit = leb→le (length r.unit) 16 (both_right (length (name_text r) ≤ᵇ 17) _ t) in
    rw (line_parts i n) (simp length-append (omega (arith, figure_most r.kind r.words n l, unit_most r.kind r.unit n)))

pub line_fits : (i n : ℕ) → i < count → n < 2 ^ 32 → length (line_text i n) ≤ line_bytes
line_fits i n h l = omega (arith, line_most i n h (omega arith))

-- The same of what is expected in a row and of its line in the empty form: computed over the texts that the rows have; the rows past
-- the last are all alike.
form_of : List ℕ → List ℕ → Bool
form_of expected blank = (plain expected && (length expected ≤ᵇ expected_bytes)) && (plain blank && (length blank ≤ᵇ line_bytes))

form_row : ℕ → Bool
form_row i = form_of (expected_text i) (blank_text i)

form_listed : ℕ → Bool
form_listed i = form_of (get_or (map bytes_of expected_texts) i []) (get_or (map bytes_of blank_lines) i [])

form_test : T (every count form_listed)
unfolding form_listed form_of plain
form_test = tt

text_at : (text : ℕ → List ℕ) (i n k : ℕ) → k < n → text (i + k) ≡ get_or (texts_from text i n) k []
text_at text i zero k h = absurd (omega arith)
text_at text i (suc n) zero h = let e : i + 0 ≡ i = omega arith in rw e
text_at text i (suc n) (suc k) h =
    let e : i + suc k ≡ suc i + k = omega arith in
    rw e (text_at text (suc i) n k (omega arith))

in_row : (text : ℕ → List ℕ) (texts : List (List ℕ)) (i : ℕ) → in_each_row text ≡ texts → i < count → text i ≡ get_or texts i []
in_row text texts i e h =
    let z : i ≡ 0 + i = omega arith in
    ap text z ∙ text_at text 0 count i h ∙ ap (λ (l : List (List ℕ)). get_or l i []) e

form_within : (i : ℕ) → i < count → T (form_row i)
unfolding form_row form_listed
form_within i h =
    rw (in_row expected_text (map bytes_of expected_texts) i expected_texts_lem h, in_row blank_text (map bytes_of blank_lines) i blank_lines_lem h)
    (every_at count form_listed form_test i h)

form_last : T (form_row count)
unfolding form_row form_of plain blank_text blank_row expected_text lines_text span_text values_of row_text front_text name_text figure_text unit_text behind token count_text digits digits_within row_at rows flatten
form_last = tt

form_past : (i : ℕ) → count ≤ i → form_row i ≡ form_row count
unfolding form_row expected_text blank_text
form_past i h = rw (← no_row i h, ← past_rows i h, ← no_row count (omega arith), ← past_rows count (omega arith))

module _ (i : ℕ) where
  form_tested : T (form_row i)
  form_tested = below_or i count (form_within i) (λ h. rw (form_past i h) form_last)

  expected_tested : T (plain (expected_text i) && (length (expected_text i) ≤ᵇ expected_bytes))
  unfolding form_row form_of
  expected_tested = both_left (plain (expected_text i) && (length (expected_text i) ≤ᵇ expected_bytes)) _ form_tested

  blank_tested : T (plain (blank_text i) && (length (blank_text i) ≤ᵇ line_bytes))
  unfolding form_row form_of
  blank_tested = both_right (plain (expected_text i) && (length (expected_text i) ≤ᵇ expected_bytes)) _ form_tested

  pub expected_plain : Each Plain (expected_text i)
  expected_plain = plain_each (expected_text i) (both_left (plain (expected_text i)) _ expected_tested)

  pub expected_fits : length (expected_text i) ≤ expected_bytes
  expected_fits = leb→le (length (expected_text i)) expected_bytes (both_right (plain (expected_text i)) _ expected_tested)

  pub blank_plain : Each Plain (blank_text i)
  blank_plain = plain_each (blank_text i) (both_left (plain (blank_text i)) _ blank_tested)

  pub blank_fits : length (blank_text i) ≤ line_bytes
  blank_fits = leb→le (length (blank_text i)) line_bytes (both_right (plain (blank_text i)) _ blank_tested)
