-- A count's text, put from its last digit to its first.
-- The digits that stand already end the text; what is left to put is the text of what is left of the count.
use mathlib.Core.Path.{◌≡◌, refl, sym, ◌∙◌}
use mathlib.Core.List.{List, [], ◌∷◌, ◌++◌, map-append, append_assoc, append-nil}
use Prim.Native.Nat.{ℕ, ◌+◌, ◌-◌, ◌/◌, ◌%◌, ◌^◌, ◌≤◌, ◌<◌}
use native.Mathlib.Omega.{arith}
use lib.ListN.{length, set, length-map}
use Rattle.lines.specs.Decimals.{digits, byte_of, count_text}
use Rattle.lines.specs.Lines.{Put}
use Rattle.lines.proofs.putting.Placing.{put_none, byte_before}
use Rattle.lines.proofs.decimals.Digits.{digits_one, digits_more, places_at_most, places_more, places_one}

pub count_one : (n : ℕ) → n < 10 → count_text n ≡ byte_of n ∷ []
unfolding count_text
count_one n h = rw (digits_one n h)

pub count_more : (n : ℕ) → 10 ≤ n → count_text n ≡ count_text (n / 10) ++ byte_of (n % 10) ∷ []
unfolding count_text
count_more n h = rw (digits_more n h) (map-append byte_of (digits (n / 10)) (n % 10 ∷ []))

pub count_at_most : (k n : ℕ) → n < 10 ^ (k + 1) → length (count_text n) ≤ k + 1
unfolding count_text
count_at_most k n h = rw (length-map (digits n) byte_of) (places_at_most k n h)

-- the text of n is to stand at a place of the buffer: the digits from place to end stand, and those of rest are still to be put before them
pub record Standing (buffer : List ℕ) (at n end : ℕ) (later : List ℕ) (place rest : ℕ) : Type 0 where
  pub stand : List ℕ
  pub text : count_text n ≡ count_text rest ++ stand
  pub left : place ≡ at + length (digits rest)
  pub holds : Put buffer place stand later end

pub none_stands : (buffer : List ℕ) (at n end : ℕ) → end ≡ at + length (digits n) → Standing buffer at n end buffer end n
none_stands buffer at n end e = record { stand = []; text = sym (append-nil (count_text n)); left = e; holds = put_none }

module _ {buffer later : List ℕ} {at n end place rest : ℕ} (s : Standing buffer at n end later place rest) where
  pub one_more_stands : 10 ≤ rest → place ≤ length buffer
      → Standing buffer at n end (set later (place - 1) (byte_of (rest % 10))) (place - 1) (rest / 10)
  one_more_stands h within =
      let more = places_more rest h in
      record {
        stand = byte_of (rest % 10) ∷ s.stand;
        text = s.text ∙ rw (count_more rest h, append_assoc);
        left = omega arith;
        holds = byte_before s.holds (omega arith) (omega arith);
      }

  pub all_stands : rest < 10 → at < length buffer → Put buffer at (count_text n) (set later at (byte_of rest)) end
  all_stands h within =
      let one = places_one rest h in
      rw (s.text, count_one rest h) (byte_before s.holds (omega arith) within)

-- up to four digits, each in front of those that stand
module _ {buffer : List ℕ} {at n : ℕ} where
  pub two_stand : 10 ≤ n → n < 100 → at + 2 ≤ length buffer
      → Put buffer at (count_text n) (set (set buffer (at + 1) (byte_of (n % 10))) at (byte_of (n / 10))) (at + 2)
  two_stand l h within =
      rw (count_more n l, count_one (n / 10) (omega arith))
      (byte_before (byte_before put_none (omega arith) (omega arith)) refl (omega arith))

  pub three_stand : 100 ≤ n → n < 1000 → at + 3 ≤ length buffer
      → Put buffer at (count_text n)
      (set (set (set buffer (at + 2) (byte_of (n % 10))) (at + 1) (byte_of (n / 10 % 10))) at (byte_of (n / 100))) (at + 3)
  three_stand l h within =
      let e : n / 10 / 10 ≡ n / 100 = omega arith in
      rw (count_more n (omega arith), count_more (n / 10) (omega arith), e, count_one (n / 100) (omega arith))
      (byte_before
      (byte_before (byte_before put_none (omega arith) (omega arith)) (omega arith) (omega arith)) refl (omega arith))

  pub four_stand : 1000 ≤ n → n < 10000 → at + 4 ≤ length buffer
      → Put buffer at (count_text n)
      (set (set (set (set buffer (at + 3) (byte_of (n % 10))) (at + 2) (byte_of (n / 10 % 10))) (at + 1) (byte_of (n / 100 % 10))) at (byte_of (n / 1000)))
      (at + 4)
  four_stand l h within =
      let e : n / 10 / 10 ≡ n / 100 = omega arith in
      let f : n / 100 / 10 ≡ n / 1000 = omega arith in
      rw (count_more n (omega arith), count_more (n / 10) (omega arith), e, count_more (n / 100) (omega arith), f, count_one (n / 1000) (omega arith))
      (byte_before
      (byte_before
      (byte_before (byte_before put_none (omega arith) (omega arith)) (omega arith) (omega arith))
      (omega arith) (omega arith)) refl (omega arith))
