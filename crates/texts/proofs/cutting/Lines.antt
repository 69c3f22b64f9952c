-- The first line of a text, byte by byte; a line without a carriage return, and that it is the front of its text; one that is passed over.
use mathlib.Core.Path.{◌≡◌, refl, ap, sym, ◌∙◌}
use mathlib.Core.Bool.{Bool, true, false, ◌&&◌}
use mathlib.Core.List.{List, [], ◌∷◌}
use Prim.Native.Nat.{ℕ, suc, ◌+◌, ◌-◌, ◌≤◌, ◌<◌, min}
use native.Mathlib.Numerals.{add-one}
use native.Mathlib.Omega.{arith}
use borrow.Author.Tests.{eq-eqb, ne_eqb, eqb-true, eqb-false, ltb-true, ltb-false}
use lib.Dec.{eqb, ltb}
use lib.ListN.{length, take, drop, get_or, drop_of_length-le}
use lib.Pointwise.{pointwise}
use lib.Seq.{take-take, drop-cons}
use Rattle.laws.proofs.Never.{never}
use Rattle.laws.specs.Choice.{ifᵇ◌then◌else◌}
use Rattle.texts.specs.Cutting.{newline, return, hash, line_of, bare, blank, passed_over, next_number}

-- what stands from a place on, where something does
pub from_place : (l : List ℕ) (j : ℕ) → j < length l → drop j l ≡ get_or l j 0 ∷ drop (j + 1) l
from_place l j h = rw (add-one j) (drop-cons l j 0 h)

module _ (text : List ℕ) (at : ℕ) (some : at < length text) where
  pub line_over : get_or text at 0 ≡ newline → line_of (drop at text) ≡ []
  unfolding line_of
  line_over e = rw (from_place text at some, eq-eqb _ _ e)

  pub line_on : (get_or text at 0 ≡ newline → ⊥) → length (line_of (drop at text)) ≡ length (line_of (drop (at + 1) text)) + 1
  unfolding line_of
  line_on e = rw (from_place text at some, ne_eqb _ _ e) (omega arith)

  pub pass_comment : get_or text at 0 ≡ hash → passed_over (drop at text) ≡ true
  unfolding passed_over
  pass_comment e = rw (from_place text at some, eq-eqb _ _ e)

  pub pass_on : (get_or text at 0 ≡ hash → ⊥) → blank (get_or text at 0) ≡ true → passed_over (drop at text) ≡ passed_over (drop (at + 1) text)
  unfolding passed_over
  pass_on e f = rw (from_place text at some, ne_eqb _ _ e, f)

  pub pass_none : (get_or text at 0 ≡ hash → ⊥) → blank (get_or text at 0) ≡ false → passed_over (drop at text) ≡ false
  unfolding passed_over
  pass_none e f = rw (from_place text at some, ne_eqb _ _ e, f)

pub line_none : line_of [] ≡ []
unfolding line_of
line_none = refl

pub pass_blank : passed_over [] ≡ true
unfolding passed_over
pass_blank = refl

-- without a carriage return at its end a line is one byte shorter, and else the same
pub bare_none : (line : List ℕ) → length line ≡ 0 → bare line ≡ []
unfolding bare
bare_none [] e = refl
bare_none (b ∷ line) e = absurd (omega arith)

pub bare_return : (line : List ℕ) (n : ℕ) → length line ≡ n + 1 → get_or line n 0 ≡ return → (bare line ≡ take n line) × (length (bare line) ≡ n)
unfolding bare
bare_return [] n e f = absurd (omega arith)
bare_return (b ∷ []) n e f =
    let z : n ≡ 0 = omega arith in
    let g : b ≡ return = rw z at f in
    rw (z, eq-eqb _ _ g) (refl, refl)
bare_return (b ∷ c ∷ line) n e f =
    let z : n ≡ suc (length line) = omega arith in
    let r = bare_return (c ∷ line) (length line) (omega arith) (rw z at f) in
    rw z (ap (λ (l : List ℕ). b ∷ l) r.0, omega (arith, r.1))

pub bare_same : (line : List ℕ) (n : ℕ) → length line ≡ n + 1 → (get_or line n 0 ≡ return → ⊥) → bare line ≡ line
unfolding bare
bare_same [] n e f = refl
bare_same (b ∷ []) n e f =
    let z : n ≡ 0 = omega arith in
    let g : b ≡ return → ⊥ = rw z at f in
    rw (ne_eqb _ _ g)
bare_same (b ∷ c ∷ line) n e f =
    let z : n ≡ suc (length line) = omega arith in
    ap (λ (l : List ℕ). b ∷ l) (bare_same (c ∷ line) (length line) (omega arith) (rw z at f))

-- a line ends in a carriage return where its last byte is one
last_byte : (line : List ℕ) (n : ℕ) → length line ≡ n + 1 → pointwise eqb (return ∷ []) (drop n line) ≡ eqb return (get_or line n 0)
last_byte line n e =
    rw (from_place line n (omega arith), drop_of_length-le line {i = n + 1} (omega arith)) (go (eqb return (get_or line n 0)))
  where
    go : (t : Bool) → (t && true) ≡ t
    go true = refl
    go false = refl

pub bare_cut : (line : List ℕ) → pointwise eqb (return ∷ []) (drop (length line - 1) line) ≡ true
    → (bare line ≡ take (length line - 1) line) × (length (bare line) ≡ length line - 1) × (1 ≤ length line)
bare_cut [] e = never (cc)
bare_cut (b ∷ line) e =
    let z : length (b ∷ line) - 1 ≡ length line = omega arith in
    let same = eqb-true return (get_or (b ∷ line) (length line) 0) (sym (last_byte (b ∷ line) (length line) (omega arith)) ∙ rw z at e) in
    let r = bare_return (b ∷ line) (length line) (omega arith) (sym same) in
    rw z (r.0, r.1, omega arith)

pub bare_kept : (line : List ℕ) → pointwise eqb (return ∷ []) (drop (length line - 1) line) ≡ false → bare line ≡ line
bare_kept [] e = bare_none [] refl
bare_kept (b ∷ line) e =
    let z : length (b ∷ line) - 1 ≡ length line = omega arith in
    let other = eqb-false return (get_or (b ∷ line) (length line) 0) (sym (last_byte (b ∷ line) (length line) (omega arith)) ∙ rw z at e) in
    bare_same (b ∷ line) (length line) (omega arith) (λ same. other (sym same))

-- a number of 32 bits, and the next
pub next_is : (lines : ℕ) → lines < 4294967296 → min (lines + 1) 4294967295 ≡ next_number lines
unfolding next_number
next_is lines h = go (ltb lines 4294967295) refl
  where
    go : (t : Bool) → ltb lines 4294967295 ≡ t → min (lines + 1) 4294967295 ≡ (ifᵇ t then lines + 1 else lines)
    go true e = let l = ltb-true lines 4294967295 e in omega arith
    go false e = let l = ltb-false lines 4294967295 e in omega arith

-- a line is the front of its text, and without its carriage return the front of the line
pub line_front : (text : List ℕ) → take (length (line_of text)) text ≡ line_of text
unfolding line_of
line_front [] = refl
line_front (b ∷ text) = go (eqb b newline) (line_front text)
  where
    go : (t : Bool) → take (length (line_of text)) text ≡ line_of text
        → take (length (ifᵇ t then [] else b ∷ line_of text)) (b ∷ text) ≡ (ifᵇ t then [] else b ∷ line_of text)
    go true further = refl
    go false further = ap (λ (l : List ℕ). b ∷ l) further

bare_front : (line : List ℕ) → (take (length (bare line)) line ≡ bare line) × (length (bare line) ≤ length line)
unfolding bare
bare_front [] = (refl, omega arith)
bare_front (b ∷ []) = go (eqb b return)
  where
    go : (t : Bool) → (take (length (ifᵇ t then [] else b ∷ [])) (b ∷ []) ≡ (ifᵇ t then [] else b ∷ [])) × (length (ifᵇ t then [] else b ∷ []) ≤ 1)
    go true = (refl, omega arith)
    go false = (refl, omega arith)
bare_front (b ∷ c ∷ line) = let r = bare_front (c ∷ line) in (ap (λ (l : List ℕ). b ∷ l) r.0, omega (arith, r.1))

pub bare_line_front : (text : List ℕ) → take (length (bare (line_of text))) text ≡ bare (line_of text)
bare_line_front text =
    let r = bare_front (line_of text) in
    sym (take-take (length (bare (line_of text))) (length (line_of text)) text r.1)
    ∙ ap (take (length (bare (line_of text)))) (line_front text)
    ∙ r.0
