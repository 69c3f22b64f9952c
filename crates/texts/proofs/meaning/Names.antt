-- The name of a sheet: it stands on the line at a place, or behind that line; and its bytes are those of the line behind `sheet` and a space.
use mathlib.Core.Path.{◌≡◌, refl, ap, sym, ◌∙◌}
use mathlib.Core.Bool.{Bool, true, false}
use mathlib.Core.List.{List, [], ◌∷◌, ◌++◌}
use Prim.Native.Nat.{ℕ, ◌+◌, ◌-◌, ◌≤◌, ◌<◌, min}
use native.Mathlib.Omega.{arith}
use borrow.Author.Tests.{ne_eqb}
use lib.ListN.{length, take, drop, length-take, drop_of_length-le}
use lib.Seq.{length-take-le, take-take, take-add, drop_at, drop-drop}
use Rattle.laws.proofs.Never.{never}
use Rattle.laws.specs.Choice.{ifᵇ◌then◌else◌}
use Rattle.lines.proofs.decimals.Digits.{below_or}
use Rattle.typed.specs.Rows.{bytes_of}
use Rattle.typed.specs.Reading.{stands}
use Rattle.typed.proofs.meaning.Fronts.{front_stands}
use Rattle.texts.specs.Cutting.{line_of, lines_of, bare, begins_sheet}
use Rattle.texts.specs.Names.{front_bytes, name_from, span, bytes_in, name_in, name_after}
use Rattle.texts.specs.Typed.{OneLine}
use Rattle.texts.specs.declared.Span.{Span}
use Rattle.texts.proofs.cutting.Lines.{bare_line_front}
use Rattle.texts.proofs.steps.Turning.{whole_line}
use Rattle.texts.proofs.meaning.Cuts.{place_behind, drop_least, lines_from, lines_end}

-- the rest of a front, behind its first bytes
rest_of_front : (l : List ℕ) (n k : ℕ) → k ≤ length l → take (k - min n k) (drop (min n k) l) ≡ drop n (take k l)
rest_of_front l n k h =
    below_or k n
    (λ short.
    let z : k - min n k ≡ 0 = omega arith in
    rw z (sym (drop_of_length-le (take k l) {i = n} (omega (arith, length-take k l)))))
    (λ long.
    let m : min n k ≡ n = omega arith in
    let e : n + (k - n) ≡ k = omega arith in
    let s : take k l ≡ take n l ++ take (k - n) (drop n l) = rw e at (take-add n (k - n) l) in
    rw (m, s) (sym (drop_at (take n l) (take (k - n) (drop n l)) n (length-take-le n l (omega arith)))))

module _ (text : List ℕ) where
  -- where the first name from a place on stands
  abbrev pub name_at : ℕ → Span
  name_at at = name_in (length text) at (lines_of (drop at text))

  -- on the line at that place, or from the next on
  name_line : (at : ℕ) → at < length text
      → name_at at
      ≡ (let line = bare (line_of (drop at text)) in
      ifᵇ begins_sheet line then span (at + min front_bytes (length line)) (at + length line) else name_at (place_behind text at))
  unfolding name_in
  name_line at h = rw (lines_from text at h)

  -- behind the last line
  pub name_end_lem : (at : ℕ) → length text ≤ at → name_at at ≡ span at at
  unfolding name_in
  name_end_lem at h = rw (lines_end text at h)

  -- the same as it is found: the line up to its end, its bare bytes, and whether they begin a sheet
  pub named : (at end : ℕ) → end ≡ at + length (line_of (drop at text)) → at < length text
      → (size : ℕ) → size ≡ length (bare (take (end - at) (drop at text))) → take size (take (end - at) (drop at text)) ≡ bare (take (end - at) (drop at text))
      → size ≤ end - at → (begins : Bool) → begins ≡ begins_sheet (take (at + size - at) (drop at text))
      → name_at at ≡ (ifᵇ begins then span (at + min front_bytes size) (at + size) else name_at (min (end + 1) (length text)))
  named at end e h size s t short begins b =
      let n : at + size - at ≡ size = omega arith in
      let whole = whole_line text at end e in
      let line : take (at + size - at) (drop at text) ≡ bare (line_of (drop at text)) = rw n (sym (take-take size (end - at) (drop at text) short) ∙ t ∙ ap bare whole) in
      let long : size ≡ length (bare (line_of (drop at text))) = s ∙ ap (λ (l : List ℕ). length (bare l)) whole in
      rw (b, line, long, e) (name_line at h)

  -- the bytes of the name of a line
  line_name : (at : ℕ) (line : List ℕ) → line ≡ line_of (drop at text)
      → bytes_in text (span (at + min front_bytes (length (bare line))) (at + length (bare line))) ≡ drop front_bytes (bare line)
  line_name at line e =
      let rest = drop at text in
      let size = length (bare (line_of rest)) in
      let front = min front_bytes size in
      let n : at + size - (at + front) ≡ size - front = omega arith in
      let within : size ≤ length rest = omega (arith, ap length (bare_line_front rest), length-take size rest) in
      rw (e, n, ← drop-drop front at text) (rest_of_front rest front_bytes size within ∙ ap (drop front_bytes) (bare_line_front rest))

  names : (lines : List (List ℕ)) (at : ℕ) → lines ≡ lines_of (drop at text) → bytes_in text (name_in (length text) at lines) ≡ name_from lines
  unfolding name_in name_from
  names [] at e = let z : at - at ≡ 0 = omega arith in rw z
  names (line ∷ lines) at e =
      below_or at (length text)
      (λ h.
      let f : line ∷ lines ≡ line_of (drop at text) ∷ lines_of (drop (place_behind text at) text) = e ∙ lines_from text at h in
      let l : line ≡ line_of (drop at text) = cc in
      let m : lines ≡ lines_of (drop (place_behind text at) text) = cc in
      go (begins_sheet (bare line)) (line_name at line l) (names lines (min (at + length line + 1) (length text)) (rw l m)))
      (λ h. let f : line ∷ lines ≡ [] = e ∙ lines_end text at h in never cc)
    where
      go : (b : Bool) → bytes_in text (span (at + min front_bytes (length (bare line))) (at + length (bare line))) ≡ drop front_bytes (bare line)
          → bytes_in text (name_in (length text) (min (at + length line + 1) (length text)) lines) ≡ name_from lines
          → bytes_in text (ifᵇ b then span (at + min front_bytes (length (bare line))) (at + length (bare line)) else name_in (length text) (min (at + length line + 1) (length text)) lines)
          ≡ (ifᵇ b then drop front_bytes (bare line) else name_from lines)
      go true here further = here
      go false here further = further

  pub name_bytes : (from : ℕ) → bytes_in text (name_after text from) ≡ name_from (lines_of (drop from text))
  unfolding name_after
  name_bytes from = names (lines_of (drop (min from (length text)) text)) (min from (length text)) refl ∙ ap (λ (l : List ℕ). name_from (lines_of l)) (drop_least text from)

-- a line of `sheet`, a space and a name begins a sheet, and has that name; `sheet` alone has none
pub title_begins : (name : List ℕ) → begins_sheet (bytes_of "sheet " ++ name) ≡ true
unfolding begins_sheet
title_begins name =
    let title = bytes_of "sheet " ++ name in
    rw (ne_eqb (length title) 5 (λ (e : length title ≡ 5). omega arith)) (front_stands (bytes_of "sheet ") name)

pub name_of_title : (name : List ℕ) (lines : List (List ℕ)) → OneLine (bytes_of "sheet " ++ name) → name_from ((bytes_of "sheet " ++ name) ∷ lines) ≡ name
unfolding name_from
name_of_title name lines one = rw (one.no_return, title_begins name)

pub name_of_none : (lines : List (List ℕ)) → name_from (bytes_of "sheet" ∷ lines) ≡ []
unfolding name_from bare begins_sheet stands
name_of_none lines = refl
