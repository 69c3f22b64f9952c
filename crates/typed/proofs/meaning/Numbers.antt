-- A number is guessed from its text: its digits are read back, points are passed over, and what follows ends it.
-- By going down the digits.
use mathlib.Core.Path.{◌≡◌, refl, ap, sym, ◌∙◌}
use mathlib.Core.Bool.{Bool, true, false}
use mathlib.Core.List.{List, [], ◌∷◌, ◌++◌, map, append_assoc}
use mathlib.Core.Logic.{◌≢◌}
use Prim.Native.Nat.{ℕ, zero, suc, ◌+◌, ◌-◌, ◌*◌, ◌/◌, ◌%◌, ◌≤◌, ◌<◌}
use native.Mathlib.Omega.{arith}
use borrow.Author.Tests.{ltb-true, ltb-false, lt-ltb, le-ltb, le-leb, eqb-true, eqb-false, ne_eqb}
use lib.ListN.{length, get_or, length-map}
use Rattle.laws.specs.Choice.{ifᵇ◌then◌else◌, ◌<ᵇ◌, ◌=ᵇ◌}
use Rattle.laws.specs.Each.{Each}
use Rattle.lines.specs.Decimals.{digits, value_behind, byte_of, minus, count_text}
use Rattle.lines.specs.Lines.{space}
use Rattle.lines.proofs.decimals.Digits.{places_some}
use Rattle.lines.proofs.decimals.Meaning.{digits_value, digits_each}
use Rattle.lines.proofs.decimals.Texts.{DigitByte, count_bytes}
use Rattle.typed.specs.Rows.{bytes_of}
use Rattle.typed.specs.Lines.{token, point, tenths_text, hundredths_text, level_zero, level_text, behind, unit_by}
use Rattle.typed.specs.Reading.{stands, cap, in_number, digit_on, digits_read, below_zero, level_guess}
use Rattle.typed.specs.declared.Kind.TheVariants.{Level}

-- numbers of at most nine digits are read
abbrev pub readable : ℕ
readable = 10 * cap

part : (b : ℕ) → point ≤ b → b ≤ 57 → in_number b ≡ true
unfolding in_number
part b p q = rw (le-ltb b point p, le-leb b 57 q)

-- one byte on
read_on : (v b : ℕ) (bytes : List ℕ) → point ≤ b → b ≤ 57 → v < cap → digits_read v (b ∷ bytes) ≡ digits_read (digit_on v b) bytes
unfolding digits_read
read_on v b bytes p q h = rw (part b p q, lt-ltb v cap h)

read_stop : (v b : ℕ) (bytes : List ℕ) → b < point → digits_read v (b ∷ bytes) ≡ v
unfolding digits_read in_number
read_stop v b bytes h = rw (lt-ltb b point h)

module _ (v : ℕ) (rest : List ℕ) (small : v < cap) where
  point_read : digits_read v (point ∷ rest) ≡ digits_read v rest
  unfolding digit_on
  point_read = read_on v point rest (omega arith) (omega arith) small

  digit_read : (d : ℕ) → d < 10 → digits_read v (byte_of d ∷ rest) ≡ digits_read (10 * v + d) rest
  unfolding digit_on
  digit_read d h =
      let e : (48 + d) - 48 ≡ d = omega arith in
      read_on v (48 + d) rest (omega arith) (omega arith) small ∙ rw (le-ltb (48 + d) 48 (omega arith), e)

-- digits mean at least what was read before them
at_least : (ds : List ℕ) (read : ℕ) → read ≤ value_behind read ds
at_least [] read = omega arith
at_least (d ∷ ds) read = omega (arith, at_least ds (10 * read + d))

digits_read_lem : (ds : List ℕ) (v : ℕ) (rest : List ℕ) → Each (λ (d : ℕ). d < 10) ds → value_behind v ds < readable
    → digits_read v (map byte_of ds ++ rest) ≡ digits_read (value_behind v ds) rest
digits_read_lem [] v rest e h = refl
digits_read_lem (d ∷ ds) v rest e h =
    digit_read v (map byte_of ds ++ rest) (omega (arith, at_least ds (10 * v + d))) d e.0 ∙ digits_read_lem ds (10 * v + d) rest e.1 h

count_read : (n : ℕ) (rest : List ℕ) → n < readable → digits_read 0 (count_text n ++ rest) ≡ digits_read n rest
unfolding count_text
count_read n rest h =
    digits_read_lem (digits n) 0 rest (digits_each n) (rw (digits_value n) h) ∙ ap (λ (v : ℕ). digits_read v rest) (digits_value n)

tenths_read : (n : ℕ) (rest : List ℕ) → n < readable → digits_read 0 (tenths_text n ++ rest) ≡ digits_read n rest
unfolding tenths_text
tenths_read n rest h =
    let e : 10 * (n / 10) + n % 10 ≡ n = omega arith in
    let last = byte_of (n % 10) ∷ rest in
    simp append_assoc
    (count_read (n / 10) (point ∷ last) (omega arith)
    ∙ point_read (n / 10) last (omega arith)
    ∙ digit_read (n / 10) rest (omega arith) (n % 10) (omega arith)
    ∙ rw e)

hundredths_read : (n : ℕ) (rest : List ℕ) → n < readable → digits_read 0 (hundredths_text n ++ rest) ≡ digits_read n rest
unfolding hundredths_text
hundredths_read n rest h =
    let e : 10 * (n / 100) + n / 10 % 10 ≡ n / 10 = omega arith in
    let f : 10 * (n / 10) + n % 10 ≡ n = omega arith in
    let last = byte_of (n % 10) ∷ rest in
    let two = byte_of (n / 10 % 10) ∷ last in
    simp append_assoc
    (count_read (n / 100) (point ∷ two) (omega arith)
    ∙ point_read (n / 100) two (omega arith)
    ∙ digit_read (n / 100) last (omega arith) (n / 10 % 10) (omega arith)
    ∙ ap (λ (v : ℕ). digits_read v last) e
    ∙ digit_read (n / 10) rest (omega arith) (n % 10) (omega arith)
    ∙ ap (λ (v : ℕ). digits_read v rest) f)

-- a unit, or none, ends a number
unit_ends : (v : ℕ) (unit : List ℕ) → digits_read v (behind unit) ≡ v
unfolding behind digits_read
unit_ends v unit = go (get_or unit 0 0 =ᵇ space)
  where
    go : (t : Bool) → digits_read v (ifᵇ t then [] else space ∷ token unit) ≡ v
    go true = refl
    go false = read_stop v space (token unit) (omega arith)

module _ (n : ℕ) (unit : List ℕ) (h : n < readable) where
  pub whole_back : digits_read 0 (count_text n ++ behind unit) ≡ n
  whole_back = count_read n (behind unit) h ∙ unit_ends n unit

  pub tenths_back : digits_read 0 (tenths_text n ++ behind unit) ≡ n
  tenths_back = tenths_read n (behind unit) h ∙ unit_ends n unit

  pub hundredths_back : digits_read 0 (hundredths_text n ++ behind unit) ≡ n
  hundredths_back = hundredths_read n (behind unit) h ∙ unit_ends n unit

-- no count begins with a sign
no_sign : (text rest : List ℕ) → Each DigitByte text → 1 ≤ length text → stands (minus ∷ []) (text ++ rest) ≡ false
unfolding stands
no_sign [] rest p h = absurd (omega arith)
no_sign (b ∷ text) rest p h = let low = p.0.0 in rw (ne_eqb minus b (λ (e : minus ≡ b). omega arith))

count_no_sign : (n : ℕ) (rest : List ℕ) → stands (minus ∷ []) (count_text n ++ rest) ≡ false
unfolding count_text
count_no_sign n rest = no_sign (count_text n) rest (count_bytes n) (rw (length-map (digits n) byte_of) (places_some n))

-- a level is guessed from its text and unit
level_below : (depth : ℕ) (unit : List ℕ) → depth < level_zero → level_guess ((bytes_of "given " ++ minus ∷ count_text depth) ++ behind unit) ≡ level_zero - depth
unfolding level_guess stands below_zero
level_below depth unit h = rw (whole_back depth unit (omega arith), lt-ltb depth level_zero h)

level_above : (height : ℕ) (unit : List ℕ) → height < readable → level_guess ((bytes_of "given " ++ count_text height) ++ behind unit) ≡ height + level_zero
unfolding level_guess stands
level_above height unit h = rw (count_no_sign height (behind unit), whole_back height unit h)

positive : (n : ℕ) → n ≢ 0 → 0 < n
positive zero some = absurd (some refl)
positive (suc n) some = omega arith

level_record : level_guess (bytes_of "record") ≡ 0
unfolding level_guess stands
level_record = refl

pub level_back : (n : ℕ) (unit : List ℕ) → n < readable → level_guess (level_text n ++ unit_by Level unit n) ≡ n
unfolding level_text
level_back n unit h = go (n =ᵇ 0) refl (n <ᵇ level_zero) refl
  where
    go : (a : Bool) → (n =ᵇ 0) ≡ a → (b : Bool) → (n <ᵇ level_zero) ≡ b
        → level_guess
        ((ifᵇ a then bytes_of "record" else bytes_of "given " ++ (ifᵇ b then minus ∷ count_text (level_zero - n) else count_text (n - level_zero)))
        ++ (ifᵇ a then [] else behind unit))
        ≡ n
    go true p b q = level_record ∙ sym (eqb-true n 0 p)
    go false p true q =
        let l = ltb-true n level_zero q in
        let some : 0 < n = positive n (eqb-false n 0 p) in
        level_below (level_zero - n) unit (omega arith) ∙ omega arith
    go false p false q = let l = ltb-false n level_zero q in level_above (n - level_zero) unit (omega arith) ∙ omega arith
