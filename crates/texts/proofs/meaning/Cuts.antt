-- A text is cut into its first line and what stands behind it: so are its lines, from any place on.
use mathlib.Core.Path.{◌≡◌, refl, ap, sym, ◌∙◌}
use mathlib.Core.Bool.{Bool, true, false}
use mathlib.Core.List.{List, [], ◌∷◌}
use Prim.Native.Nat.{ℕ, zero, suc, ◌+◌, ◌≤◌, ◌<◌, min}
use native.Mathlib.Numerals.{add-one}
use native.Mathlib.Omega.{arith}
use lib.Dec.{eqb}
use lib.ListN.{length, drop, length-drop, drop_of_length-le}
use lib.Seq.{drop-drop, drop-nil}
use Rattle.laws.specs.Choice.{ifᵇ◌then◌else◌}
use Rattle.texts.specs.Cutting.{newline, line_of, in_front, lines_of}

-- no text has no line
pub lines_none : lines_of [] ≡ []
unfolding lines_of
lines_none = refl

-- a byte in front of some lines is in front of the first
front_some : (b : ℕ) (line : List ℕ) (lines : List (List ℕ)) (all : List (List ℕ)) → all ≡ line ∷ lines → in_front b all ≡ (b ∷ line) ∷ lines
front_some b line lines all e = rw e

first_suc : (text : List ℕ) → 0 < length text → lines_of text ≡ line_of text ∷ lines_of (drop (suc (length (line_of text))) text)
unfolding lines_of line_of
first_suc [] h = absurd (omega arith)
first_suc (b ∷ []) h = go (eqb b newline)
  where
    go : (t : Bool) → (ifᵇ t then [] ∷ [] else (b ∷ []) ∷ []) ≡ (ifᵇ t then [] else b ∷ []) ∷ lines_of (drop (length (ifᵇ t then [] else b ∷ [])) [])
    go true = refl
    go false = refl
first_suc (b ∷ c ∷ text) h = go (eqb b newline) (first_suc (c ∷ text) (omega arith))
  where
    rest : List ℕ
    rest = c ∷ text

    go : (t : Bool) → lines_of rest ≡ line_of rest ∷ lines_of (drop (suc (length (line_of rest))) rest)
        → (ifᵇ t then [] ∷ lines_of rest else in_front b (lines_of rest))
        ≡ (ifᵇ t then [] else b ∷ line_of rest) ∷ lines_of (drop (length (ifᵇ t then [] else b ∷ line_of rest)) rest)
    go true further = refl
    go false further = front_some b (line_of rest) _ (lines_of rest) further

-- the first line of some text, and the lines of what stands behind it and its newline
pub first_line : (text : List ℕ) → 0 < length text → lines_of text ≡ line_of text ∷ lines_of (drop (length (line_of text) + 1) text)
first_line text h = rw add-one (first_suc text h)

-- the place behind a line that begins at a place: the text's end where no newline follows
abbrev pub place_behind : List ℕ → ℕ → ℕ
place_behind text at = min (at + length (line_of (drop at text)) + 1) (length text)

-- what stands behind the end of a text is what stands at its end
pub drop_least : (text : List ℕ) (n : ℕ) → drop (min n (length text)) text ≡ drop n text
drop_least [] n = drop-nil (min n 0) ∙ sym (drop-nil n)
drop_least (b ∷ text) zero = let e : min 0 (suc (length text)) ≡ 0 = omega arith in rw e
drop_least (b ∷ text) (suc n) = let e : min (suc n) (suc (length text)) ≡ suc (min n (length text)) = omega arith in rw e (drop_least text n)

-- the lines from a place on: the one that begins there, and those from the place behind it
pub lines_from : (text : List ℕ) (at : ℕ) → at < length text
    → lines_of (drop at text) ≡ line_of (drop at text) ∷ lines_of (drop (place_behind text at) text)
lines_from text at h =
    let some : 0 < length (drop at text) = rw length-drop (omega arith) in
    let n = length (line_of (drop at text)) in
    let place : at + (n + 1) ≡ at + n + 1 = omega arith in
    first_line (drop at text) some
    ∙ ap (λ (l : List ℕ). line_of (drop at text) ∷ lines_of l)
    (drop-drop (n + 1) at text ∙ ap (λ (k : ℕ). drop k text) place ∙ sym (drop_least text (at + n + 1)))

-- none from the end on
pub lines_end : (text : List ℕ) (at : ℕ) → length text ≤ at → lines_of (drop at text) ≡ []
lines_end text at h = rw (drop_of_length-le text h) lines_none

-- the place behind a line is past it, and within the text
pub place_on : (text : List ℕ) (at : ℕ) → at < length text → at < place_behind text at
place_on text at h = omega arith

pub place_within_lem : (text : List ℕ) (at : ℕ) → place_behind text at ≤ length text
place_within_lem text at = omega arith
