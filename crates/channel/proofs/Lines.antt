-- Lines in a buffer: what is written while they are put, and what stands in the buffer then, are all of them in their order. By the list of lines.
use mathlib.Core.Path.{◌≡◌, refl, sym, ap, ◌∙◌}
use mathlib.Core.Bool.{Bool, true, false}
use mathlib.Core.List.{List, [], ◌∷◌, ◌++◌, append_assoc, append-nil, flatten}
use Prim.Native.Nat.{ℕ, ◌+◌, ◌≤◌}
use native.Mathlib.Omega.{arith}
use borrow.Author.Tests.{leb-true}
use lib.Dec.{leb}
use lib.ListN.{length, take}
use Rattle.laws.specs.Choice.{◌≤ᵇ◌}
use Rattle.lines.specs.Lines.{place_within, buffer_within}
use Rattle.lines.proofs.putting.Fitting.{line_behind, none_lost}
use Rattle.channel.specs.Output.{place_for, written_for, Lines, standing, with_line, with_lines, written}

module _ (room : ℕ) where
  -- the place for a line
  module _ (buffer : List ℕ) (at : ℕ) where
    pub place_kept : (at + room ≤ᵇ length buffer) ≡ true → at ≡ place_for room buffer at
    place_kept e = rw e

    pub place_first : (at + room ≤ᵇ length buffer) ≡ false → 0 ≡ place_for room buffer at
    place_first e = rw e

  pub line_put : (line : List ℕ) (l : Lines) (at : ℕ) (after : ℕ) (later : List ℕ) → at ≡ place_for room l.buffer l.at
      → after ≡ place_within room line at l.buffer → later ≡ buffer_within room line at l.buffer
      → ◌≡◌ {A = Lines} (record { at = after; buffer = later }) (with_line room line l)
  unfolding with_line
  line_put line l at after later a p b = rw (p, b, a)

  -- one line, in a buffer that has space for one
  module _ (line : List ℕ) (l : Lines) (space : room ≤ length l.buffer) where
    at_its_place : (at : ℕ) → place_for room l.buffer l.at ≡ at → at + room ≤ length l.buffer
        → standing (with_line room line l) ≡ take at l.buffer ++ line
    unfolding with_line
    at_its_place at e h = rw e (line_behind room line at l.buffer h)

    one_line : written_for room l.buffer l.at ++ standing (with_line room line l) ≡ standing l ++ line
    one_line = go (leb (l.at + room) (length l.buffer)) refl
      where
        go : (b : Bool) → leb (l.at + room) (length l.buffer) ≡ b → written_for room l.buffer l.at ++ standing (with_line room line l) ≡ standing l ++ line
        go true e = rw e (at_its_place l.at (sym (place_kept l.buffer l.at e)) (leb-true _ _ e))
        go false e = rw e (ap (λ (text : List ℕ). standing l ++ text) (at_its_place 0 (sym (place_first l.buffer l.at e)) (omega arith)))

    still_space : room ≤ length (with_line room line l).buffer
    unfolding with_line
    still_space = omega (arith, none_lost room line (place_for room l.buffer l.at) l.buffer)

  pub all_lines : (lines : List (List ℕ)) (l : Lines) → room ≤ length l.buffer
      → written room lines l ++ standing (with_lines room lines l) ≡ standing l ++ flatten lines
  unfolding written with_lines flatten
  all_lines [] l space = sym (append-nil (standing l))
  all_lines (line ∷ lines) l space =
      append_assoc (written_for room l.buffer l.at) (written room lines (with_line room line l)) (standing (with_lines room lines (with_line room line l)))
      ∙ ap (λ (text : List ℕ). written_for room l.buffer l.at ++ text) (all_lines lines (with_line room line l) (still_space line l space))
      ∙ sym (append_assoc (written_for room l.buffer l.at) (standing (with_line room line l)) (flatten lines))
      ∙ ap (λ (text : List ℕ). text ++ flatten lines) (one_line line l space)
      ∙ append_assoc (standing l) line (flatten lines)

  pub lines_in_two : (first second : List (List ℕ)) (l : Lines) → with_lines room (first ++ second) l ≡ with_lines room second (with_lines room first l)
  unfolding with_lines
  lines_in_two [] second l = refl
  lines_in_two (line ∷ first) second l = lines_in_two first second (with_line room line l)
