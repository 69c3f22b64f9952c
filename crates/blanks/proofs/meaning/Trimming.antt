-- A word without the spaces at its end: the same with a space more, and the word itself where its last byte is none.
use mathlib.Core.Path.{◌≡◌, refl, ap, sym, ◌∙◌}
use mathlib.Core.Bool.{Bool, true, false}
use mathlib.Core.List.{List, [], ◌∷◌, ◌++◌}
use Prim.Native.Nat.{ℕ, suc, ◌+◌, ◌-◌, ◌≤◌, ◌<◌}
use native.Mathlib.Omega.{arith}
use borrow.Author.Tests.{eqb-true, eqb-false, eq-eqb, ne_eqb}
use lib.Dec.{eqb}
use lib.ListN.{length, take, get_or}
use lib.Seq.{length-take-le, take-length, take-suc}
use Rattle.lines.specs.Lines.{space}
use Rattle.blanks.specs.Blanks.{trimmed_by, trimmed}

-- what holds of a number that is another, and of one that is not
pub same_or : (m n : ℕ) {P : Type 0} → (m ≡ n → P) → ((m ≡ n → ⊥) → P) → P
same_or m n {P} same other = go (eqb m n) refl
  where
    go : (b : Bool) → eqb m n ≡ b → P
    go true e = same (eqb-true m n e)
    go false e = other (eqb-false m n e)

space_more : (word : List ℕ) → trimmed (word ++ space ∷ []) ≡ trimmed word
unfolding trimmed
space_more [] = refl
space_more (byte ∷ word) = ap (trimmed_by byte) (space_more word)

-- a byte in front of a word with a last byte that is no space
kept_by : (byte : ℕ) (word : List ℕ) (last : ℕ) → trimmed_by byte (word ++ last ∷ []) ≡ byte ∷ (word ++ last ∷ [])
kept_by byte [] last = refl
kept_by byte (next ∷ word) last = refl

other_last : (word : List ℕ) (last : ℕ) → (last ≡ space → ⊥) → trimmed (word ++ last ∷ []) ≡ word ++ last ∷ []
unfolding trimmed
other_last [] last other = rw (ne_eqb last space other)
other_last (byte ∷ word) last other = rw (other_last word last other) (kept_by byte word last)

-- all behind the first bytes of a word are spaces
abbrev pub SpacesFrom : List ℕ → ℕ → Type 0
SpacesFrom word bytes = trimmed word ≡ trimmed (take bytes word)

pub none_passed : (word : List ℕ) → SpacesFrom word (length word)
none_passed word = rw (take-length word)

pub all_passed : (word : List ℕ) → SpacesFrom word 0 → 0 ≡ length (trimmed word)
unfolding trimmed
all_passed word e = rw e

module _ (word : List ℕ) (bytes : ℕ) (some : 0 < bytes) (within : bytes ≤ length word) (spaces : SpacesFrom word bytes) where
  last_of : take bytes word ≡ take (bytes - 1) word ++ get_or word (bytes - 1) 0 ∷ []
  last_of =
      let e : suc (bytes - 1) ≡ bytes = omega arith in
      ap (λ (n : ℕ). take n word) (sym e) ∙ take-suc word (bytes - 1) 0 (omega arith)

  pub space_passed : get_or word (bytes - 1) 0 ≡ space → SpacesFrom word (bytes - 1)
  space_passed e = spaces ∙ rw (last_of, e) (space_more (take (bytes - 1) word))

  pub stops_at_other : (get_or word (bytes - 1) 0 ≡ space → ⊥) → bytes ≡ length (trimmed word)
  stops_at_other other =
      let kept : trimmed word ≡ take bytes word = spaces ∙ rw last_of (other_last (take (bytes - 1) word) (get_or word (bytes - 1) 0) other) in
      rw kept (sym (length-take-le bytes word within))

taken_by : (byte : ℕ) (left word : List ℕ) → take (length left) word ≡ left → take (length (trimmed_by byte left)) (byte ∷ word) ≡ trimmed_by byte left
taken_by byte [] word e = same_or byte space (λ s. rw (eq-eqb byte space s)) (λ o. rw (ne_eqb byte space o))
taken_by byte (next ∷ left) word e = ap (λ (rest : List ℕ). byte ∷ rest) e

-- it is the first bytes of the word
trimmed_taken : (word : List ℕ) → take (length (trimmed word)) word ≡ trimmed word
unfolding trimmed
trimmed_taken [] = refl
trimmed_taken (byte ∷ word) = taken_by byte (trimmed word) word (trimmed_taken word)

short_by : (byte : ℕ) (left : List ℕ) (n : ℕ) → length left ≤ n → length (trimmed_by byte left) ≤ n + 1
short_by byte [] n h = same_or byte space (λ s. rw (eq-eqb byte space s) (omega arith)) (λ o. rw (ne_eqb byte space o) (omega arith))
short_by byte (next ∷ left) n h = omega arith

pub trimmed_short : (word : List ℕ) → length (trimmed word) ≤ length word
unfolding trimmed
trimmed_short [] = omega arith
trimmed_short (byte ∷ word) = omega (arith, short_by byte (trimmed word) (length word) (trimmed_short word))

pub first_bytes : (word : List ℕ) (n : ℕ) → n ≡ length (trimmed word) → (n ≤ length word) × (take n word ≡ trimmed word)
first_bytes word n e = (omega (arith, trimmed_short word), rw e (trimmed_taken word))
