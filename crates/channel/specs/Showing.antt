-- Bytes shown as text (section 14.5): the text of each sheet with its index, what the program's own steps come to, and the whole text.
use Rattle.std.specs.Prelude.{◌≡◌, ℕ, length, take, Option, Some, None}
use mathlib.Core.List.{List, [], ◌∷◌, ◌++◌, flatten}
use Rattle.record.specs.Counting.{one_more}
use Rattle.texts.specs.Shown.{shown_bytes, shown_text}
use Rattle.channel.specs.Input.{Filling, ToItsEnd}
use Rattle.channel.specs.Output.{Lines, with_lines, written}
use Rattle.channel.specs.Text.{sheets_of}
use Rattle.channel.specs.Printing.{input_block, printed_count}
use Rattle.channel.specs.declared.input.Filled.{Filled}
use Rattle.channel.specs.declared.showing.State.{State}

-- the index of the last sheet, once some more have come
unfoldable pub index_after : ℕ → List (List ℕ) → ℕ
index_after index [] = index
index_after index (sheet ∷ sheets) = index_after (one_more index) sheets

-- their texts, in their order, each with its index
unfoldable pub shown_texts : ℕ → List (List ℕ) → List (List ℕ)
shown_texts index [] = []
shown_texts index (sheet ∷ sheets) = shown_text (one_more index) sheet ∷ shown_texts (one_more index) sheets

-- the texts of an input's sheets, from 1 on, and its text
abbrev pub texts_of : List ℕ → List (List ℕ)
texts_of input = shown_texts 0 (sheets_of input)

unfoldable pub shown : List ℕ → List ℕ
shown input = flatten (texts_of input)

-- ---- the steps

-- the index so far, and the texts
pub record Progress : Type 0 where
  pub index : ℕ
  pub lines : Lines

abbrev pub progress : State → List ℕ → Progress
progress state buffer = record { index = state.index; lines = record { at = state.out.at; buffer = buffer } }

-- before the first sheet
abbrev pub at_first : List ℕ → Progress
at_first buffer = record { index = 0; lines = record { at = 0; buffer = buffer } }

-- sheets more: the text of each stands behind those before it
unfoldable pub sheets_shown : List (List ℕ) → Progress → Progress
sheets_shown sheets p = record { index = index_after p.index sheets; lines = with_lines shown_bytes (shown_texts p.index sheets) p.lines }

-- one block more, where its read failed too
pub record BlockShown (p q : Progress) (filled : Filled) (space : List ℕ) : Type 0 where
  pub filling : Filling filled (length space)
  pub sheets_shown_is : q ≡ sheets_shown (sheets_of (take (printed_count filled) space)) p

-- the sheets of an input's bytes
abbrev pub InputShown : Progress → Progress → List ℕ → Type 0
InputShown p q input = q ≡ sheets_shown (sheets_of input) p

-- where the input was read to its end and the output took it, they are shown, in whatever blocks it came
abbrev pub AllShown : List ℕ → Option State → List ℕ → Type 0
AllShown buffer (Some state) later = ToItsEnd input_block (InputShown (at_first buffer) (progress state later))
AllShown buffer None later = Unit {0}

-- ---- the whole text

-- what was written while the texts were put, and the rest that stands in the buffer, are together the text
abbrev pub TextOf : List ℕ → ℕ → List ℕ → List ℕ → Type 0
TextOf buffer rest later input = written shown_bytes (texts_of input) (record { at = 0; buffer = buffer }) ++ take rest later ≡ shown input

-- whatever blocks the input came in
abbrev pub TextShown : List ℕ → Option ℕ → List ℕ → Type 0
TextShown buffer (Some rest) later = ToItsEnd input_block (TextOf buffer rest later)
TextShown buffer None later = Unit {0}
