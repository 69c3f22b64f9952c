-- A line's text says its words: two lines with the same text have the same index and numbers, or the same counts.
-- No word has a space or a newline in it, so each word ends at the first of them.
use mathlib.Core.Path.{◌≡◌, refl, sym, ap, ap₂, ◌∙◌}
use mathlib.Core.List.{List, [], ◌∷◌, ◌++◌, map, map-append, append_assoc}
use Prim.Native.Nat.{ℕ, suc, ◌≤◌, ◌<◌}
use native.Mathlib.Omega.{arith}
use lib.IntN.{ℤ, pos, negsuc}
use lib.ListN.{length, get_or}
use Rattle.laws.specs.Each.{Each}
use Rattle.lines.specs.Decimals.{count_text, number_text}
use Rattle.lines.specs.Lines.{space, newline, letter_l, letter_r, spaced, line_text, levels_line, sheet_line, both_line, route_line, both_route_line}
use Rattle.laws.proofs.Each.{each_implied}
use Rattle.laws.proofs.Never.{never}
use Rattle.lines.proofs.decimals.Texts.{DigitByte, count_bytes, count_text_one, number_text_one}

-- a word with neither a space nor a newline
abbrev Solid : List ℕ → Type 0
Solid word = Each (λ (b : ℕ). space < b) word

count_solid : (n : ℕ) → Solid (count_text n)
count_solid n = each_implied DigitByte (λ (b : ℕ). space < b) (λ b d. omega arith) (count_text n) (count_bytes n)

number_solid : (z : ℤ) → Solid (number_text z)
unfolding number_text
number_solid (pos n) = count_solid n
number_solid (negsuc n) = (omega arith, count_solid (suc n))

-- a line behind its first word
behind : List (List ℕ) → List ℕ
behind words = spaced words ++ newline ∷ []

-- the first byte of a text
abbrev head : List ℕ → ℕ
head text = get_or text 0 0

-- what stands behind a word ends it
behind_ends : (words : List (List ℕ)) → head (behind words) ≤ space
unfolding behind spaced
behind_ends [] = omega arith
behind_ends (word ∷ words) = omega arith

same_word : (v w p q : List ℕ) → Solid v → Solid w → head p ≤ space → head q ≤ space → v ++ p ≡ w ++ q → (v ≡ w) × (p ≡ q)
same_word [] [] p q sv sw ep eq e = (refl, e)
same_word [] (b ∷ w) p q sv sw ep eq e = absurd (omega (arith, ap head e))
same_word (a ∷ v) [] p q sv sw ep eq e = absurd (omega (arith, ap head e))
same_word (a ∷ v) (b ∷ w) p q sv sw ep eq e =
    let t = same_word v w p q sv.1 sw.1 ep eq cc in
    (cc, t.1)

-- two lines with the same text have the same first word, and the same behind it
same_first : (v w : List ℕ) (vs ws : List (List ℕ)) → Solid v → Solid w → line_text v vs ≡ line_text w ws → (v ≡ w) × (behind vs ≡ behind ws)
unfolding behind
same_first v w vs ws sv sw e = same_word v w (behind vs) (behind ws) sv sw (behind_ends vs) (behind_ends ws) (simp append_assoc at e)

-- words that are texts of something, each of one thing only
module _ {A : Type 0} (text : A → List ℕ) (solid : (x : A) → Solid (text x)) (one : (x y : A) → text x ≡ text y → x ≡ y) where
  same_words : (xs ys : List A) → behind (map text xs) ≡ behind (map text ys) → xs ≡ ys
  unfolding behind spaced
  same_words [] [] e = refl
  same_words [] (y ∷ ys) e = absurd (omega (arith, ap head e))
  same_words (x ∷ xs) [] e = absurd (omega (arith, ap head e))
  same_words (x ∷ xs) (y ∷ ys) e =
      let t = same_first (text x) (text y) (map text xs) (map text ys) (solid x) (solid y) cc in
      ap₂ ◌∷◌ (one x y t.0) (same_words xs ys t.1)

  same_line : (v w : List ℕ) (xs ys : List A) → Solid v → Solid w → line_text v (map text xs) ≡ line_text w (map text ys) → (v ≡ w) × (xs ≡ ys)
  same_line v w xs ys sv sw e =
      let t = same_first v w (map text xs) (map text ys) sv sw e in
      (t.0, same_words xs ys t.1)

pub sheet_line_one : (i j : ℕ) (numbers others : List ℤ) → sheet_line i numbers ≡ sheet_line j others → (i ≡ j) × (numbers ≡ others)
unfolding sheet_line
sheet_line_one i j numbers others e =
    let t = same_line number_text number_solid number_text_one (count_text i) (count_text j) numbers others (count_solid i) (count_solid j) e in
    (count_text_one i j t.0, t.1)

-- a count is a number without a sign
as_numbers : (plain : List ℕ) → map count_text plain ≡ map number_text (map pos plain)
unfolding number_text
as_numbers [] = refl
as_numbers (n ∷ plain) = ap (λ (words : List (List ℕ)). count_text n ∷ words) (as_numbers plain)

all_numbers : (index : ℕ) (numbers : List ℤ) (plain : List ℕ) → both_line index numbers plain ≡ sheet_line index (numbers ++ map pos plain)
unfolding both_line sheet_line
all_numbers index numbers plain = rw (as_numbers plain, map-append)

same_counts : (plain more : List ℕ) → map pos plain ≡ map pos more → plain ≡ more
same_counts [] [] e = refl
same_counts [] (m ∷ more) e = never cc
same_counts (n ∷ plain) [] e = never cc
same_counts (n ∷ plain) (m ∷ more) e =
    let first : n ≡ m = cc in
    ap₂ ◌∷◌ first (same_counts plain more cc)

same_parts : (numbers others behind-them behind-others : List ℤ) → length numbers ≡ length others → numbers ++ behind-them ≡ others ++ behind-others
    → (numbers ≡ others) × (behind-them ≡ behind-others)
same_parts [] [] p q n e = (refl, e)
same_parts [] (y ∷ ys) p q n e = absurd (omega arith)
same_parts (x ∷ xs) [] p q n e = absurd (omega arith)
same_parts (x ∷ xs) (y ∷ ys) p q n e =
    let first : x ≡ y = cc in
    let t = same_parts xs ys p q (omega arith) cc in
    (ap₂ ◌∷◌ first t.0, t.1)

pub both_line_one : (i j : ℕ) (numbers others : List ℤ) (plain more : List ℕ) → length numbers ≡ length others
    → both_line i numbers plain ≡ both_line j others more → (i ≡ j) × (numbers ≡ others) × (plain ≡ more)
both_line_one i j numbers others plain more n e =
    let t = sheet_line_one i j (numbers ++ map pos plain) (others ++ map pos more) (sym (all_numbers i numbers plain) ∙ e ∙ all_numbers j others more) in
    let parts = same_parts numbers others (map pos plain) (map pos more) n t.1 in
    (t.0, parts.0, same_counts plain more parts.1)

pub both_route_line_one : (a b c d x y z w : ℕ) → both_route_line a b c d ≡ both_route_line x y z w → (a ≡ x) × (b ≡ y) × (c ≡ z) × (d ≡ w)
unfolding both_route_line
both_route_line_one a b c d x y z w e =
    let t = (same_line count_text count_solid count_text_one (letter_r ∷ []) (letter_r ∷ []) (a ∷ b ∷ c ∷ d ∷ []) (x ∷ y ∷ z ∷ w ∷ []) (omega arith, tt) (omega arith, tt) e).1 in
    (cc, cc, cc, cc)

module _ (a b c x y z : ℕ) where
  -- a line of a letter and three counts
  letter_line_one : (letter : ℕ) → space < letter
      → line_text (letter ∷ []) (map count_text (a ∷ b ∷ c ∷ [])) ≡ line_text (letter ∷ []) (map count_text (x ∷ y ∷ z ∷ []))
      → (a ≡ x) × (b ≡ y) × (c ≡ z)
  letter_line_one letter h e =
      let t = (same_line count_text count_solid count_text_one (letter ∷ []) (letter ∷ []) (a ∷ b ∷ c ∷ []) (x ∷ y ∷ z ∷ []) (h, tt) (h, tt) e).1 in
      (cc, cc, cc)

  pub levels_line_one : levels_line a b c ≡ levels_line x y z → (a ≡ x) × (b ≡ y) × (c ≡ z)
  unfolding levels_line
  levels_line_one = letter_line_one letter_l (omega arith)

  pub route_line_one : route_line a b c ≡ route_line x y z → (a ≡ x) × (b ≡ y) × (c ≡ z)
  unfolding route_line
  route_line_one = letter_line_one letter_r (omega arith)
