-- One line read off a text: its bytes, its end without a carriage return, and what is found then.
use mathlib.Core.Path.{◌≡◌, ap, ◌∙◌}
use mathlib.Core.Bool.{false}
use mathlib.Core.List.{List}
use Prim.Native.Nat.{ℕ, ◌+◌, ◌-◌, min}
use native.Mathlib.Omega.{arith}
use lib.ListN.{length, take, drop}
use Rattle.texts.specs.Cutting.{line_of, bare, next_number}
use Rattle.texts.specs.Steps.{line_step}
use Rattle.texts.specs.Texts.{turn_on}
use Rattle.texts.specs.declared.Cursor.{Cursor}
use Rattle.texts.specs.declared.Found.{Found}
use Rattle.texts.specs.declared.steps.Step.{Step}
use Rattle.texts.proofs.cutting.Lines.{line_front}

module _ (text : List ℕ) (at end : ℕ) (e : end ≡ at + length (line_of (drop at text))) where
  pub whole_line : take (end - at) (drop at text) ≡ line_of (drop at text)
  whole_line = let n : end - at ≡ length (line_of (drop at text)) = omega arith in rw n (line_front (drop at text))

  pub turned : (cursor : Cursor) (size number after : ℕ) (s : Step) → at ≡ cursor.at
      → size ≡ length (bare (take (end - at) (drop at text))) → take size (take (end - at) (drop at text)) ≡ bare (take (end - at) (drop at text))
      → s ≡ line_step cursor.stage cursor.figures (take size (take (end - at) (drop at text)))
      → number ≡ next_number cursor.lines → after ≡ min (end + 1) (length text)
      → ◌≡◌ {A = Found}
      (record {
        event = s.event;
        place = record { line = number; start = at; end = at + size; ended = false };
        cursor = record { at = after; lines = number; stage = s.stage; figures = s.figures };
      })
      (turn_on (length text) cursor (line_of (drop at text)))
  unfolding turn_on
  turned cursor size number after s a b t q n f =
      let p : s ≡ line_step cursor.stage cursor.figures (bare (line_of (drop at text))) = q ∙ ap (line_step cursor.stage cursor.figures) (t ∙ ap bare whole_line) in
      let z : size ≡ length (bare (line_of (drop at text))) = b ∙ ap (λ (l : List ℕ). length (bare l)) whole_line in
      rw (f, n, z, p, e, a)
