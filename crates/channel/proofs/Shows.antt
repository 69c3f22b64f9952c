-- Sheets shown: one, and in two parts, by the list of sheets; and what was written and what stands is the text, by the law of lines in a buffer.
use mathlib.Core.Path.{◌≡◌, refl, ap, ◌∙◌}
use mathlib.Core.List.{List, [], ◌∷◌, ◌++◌}
use Prim.Native.Nat.{ℕ, ◌+◌, ◌≤◌, min}
use native.Mathlib.Omega.{arith}
use lib.ListN.{length}
use Rattle.record.specs.Counting.{greatest, one_more}
use Rattle.lines.specs.Lines.{place_within, buffer_within}
use Rattle.texts.specs.Shown.{shown_bytes, shown_text}
use Rattle.channel.specs.Input.{ToItsEnd}
use Rattle.channel.specs.Output.{place_for, standing, with_line, with_lines, written}
use Rattle.channel.specs.Printing.{input_block}
use Rattle.channel.specs.Showing.{index_after, shown_texts, texts_of, shown, Progress, progress, at_first, sheets_shown, InputShown, TextOf}
use Rattle.channel.specs.declared.showing.State.{State}
use Rattle.channel.proofs.Blocks.{brought}
use Rattle.channel.proofs.Lines.{all_lines, lines_in_two}
use Rattle.channel.proofs.Taking.{Putting}

-- a sheet's text, from its index to the buffer
pub text_shown : (sheet : List ℕ) (p : Progress) (index at after : ℕ) (later : List ℕ) → index ≡ one_more p.index
    → at ≡ place_for shown_bytes p.lines.buffer p.lines.at → after ≡ place_within shown_bytes (shown_text index sheet) at p.lines.buffer
    → later ≡ buffer_within shown_bytes (shown_text index sheet) at p.lines.buffer
    → record { index = index; lines = record { at = after; buffer = later } } ≡ sheets_shown (sheet ∷ []) p
unfolding sheets_shown index_after shown_texts with_lines with_line
text_shown sheet p index at after later a b c d = rw (d, c, b, a)

index_in_two : (first second : List (List ℕ)) (index : ℕ) → index_after index (first ++ second) ≡ index_after (index_after index first) second
unfolding index_after
index_in_two [] second index = refl
index_in_two (sheet ∷ first) second index = index_in_two first second (one_more index)

texts_in_two : (first second : List (List ℕ)) (index : ℕ) → shown_texts index (first ++ second) ≡ shown_texts index first ++ shown_texts (index_after index first) second
unfolding index_after shown_texts
texts_in_two [] second index = refl
texts_in_two (sheet ∷ first) second index = ap (λ (texts : List (List ℕ)). shown_text (one_more index) sheet ∷ texts) (texts_in_two first second (one_more index))

pub shown_in_two : (first second : List (List ℕ)) (p : Progress) → sheets_shown (first ++ second) p ≡ sheets_shown second (sheets_shown first p)
unfolding sheets_shown
shown_in_two first second p =
    rw (index_in_two first second p.index, texts_in_two first second p.index, lines_in_two shown_bytes (shown_texts p.index first) (shown_texts (index_after p.index first) second) p.lines)

pub none_shown : (p : Progress) → sheets_shown [] p ≡ p
unfolding sheets_shown index_after shown_texts with_lines
none_shown p = refl

abbrev pub shows : Putting Progress
shows = record { put = sheets_shown; none = none_shown; in_turn_lem = shown_in_two }

-- the index counts the sheets, so each has its own
index_counted : (sheets : List (List ℕ)) (index : ℕ) → index ≤ greatest → index_after index sheets ≡ min greatest (index + length sheets)
unfolding index_after
index_counted [] index h = omega arith
index_counted (sheet ∷ sheets) index h = index_counted sheets (one_more index) (omega arith) ∙ omega arith

pub indexed : (before : List (List ℕ)) (sheet : List ℕ) (behind : List (List ℕ))
    → shown_texts 0 (before ++ sheet ∷ behind)
    ≡ shown_texts 0 before ++ shown_text (min greatest (length before + 1)) sheet ∷ shown_texts (min greatest (length before + 1)) behind
unfolding shown_texts
indexed before sheet behind =
    let index : one_more (index_after 0 before) ≡ min greatest (length before + 1) = omega (arith, index_counted before 0 (omega arith)) in
    texts_in_two before (sheet ∷ behind) 0 ∙ ap (λ (n : ℕ). shown_texts 0 before ++ shown_text n sheet ∷ shown_texts n behind) index

-- of a whole input
module _ (buffer : List ℕ) (space : shown_bytes ≤ length buffer) (state : State) (later : List ℕ) where
  in_order : (input : List ℕ) → InputShown (at_first buffer) (progress state later) input → TextOf buffer state.out.at later input
  unfolding sheets_shown shown
  in_order input put =
      ap (λ (p : Progress). written shown_bytes (texts_of input) (at_first buffer).lines ++ standing p.lines) put ∙ all_lines shown_bytes (texts_of input) (at_first buffer).lines space

  pub whole_shown : ToItsEnd input_block (InputShown (at_first buffer) (progress state later)) → ToItsEnd input_block (TextOf buffer state.out.at later)
  whole_shown = brought input_block (InputShown (at_first buffer) (progress state later)) (TextOf buffer state.out.at later) in_order
