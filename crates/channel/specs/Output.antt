-- Lines in a buffer: where each stands, and what is written when the next does not fit behind it.
use Rattle.std.specs.Prelude.{ℕ, ◌+◌, List, [], ◌∷◌, ◌++◌, length, take, Option, Some, None}
use Rattle.laws.specs.Choice.{ifᵇ◌then◌else◌, ◌≤ᵇ◌}
use Rattle.lines.specs.Lines.{place_within, buffer_within}
use Rattle.channel.specs.declared.output.Out.{Out}

-- the place of the next line, and the buffer
pub record Lines : Type 0 where
  pub at : ℕ
  pub buffer : List ℕ

-- the text that stands in the buffer
abbrev pub standing : Lines → List ℕ
standing l = take l.at l.buffer

-- where each line is given so much room
module _ (room : ℕ) where
  -- the place for a line: where it is, or the beginning once what stands there is written
  abbrev pub place_for : List ℕ → ℕ → ℕ
  place_for buffer at = ifᵇ at + room ≤ᵇ length buffer then at else 0

  -- what is written then
  abbrev pub written_for : List ℕ → ℕ → List ℕ
  written_for buffer at = ifᵇ at + room ≤ᵇ length buffer then [] else take at buffer

  -- one line more, and all lines
  unfoldable pub with_line : List ℕ → Lines → Lines
  with_line line l =
      record {
        at = place_within room line (place_for l.buffer l.at) l.buffer;
        buffer = buffer_within room line (place_for l.buffer l.at) l.buffer;
      }

  unfoldable pub with_lines : List (List ℕ) → Lines → Lines
  with_lines [] l = l
  with_lines (line ∷ lines) l = with_lines lines (with_line line l)

  -- what is written while they are put
  unfoldable pub written : List (List ℕ) → Lines → List ℕ
  written [] l = []
  written (line ∷ lines) l = written_for l.buffer l.at ++ written lines (with_line line l)

-- what waits in the buffer, where the output takes it
abbrev pub rest_of : Out → Option ℕ
rest_of out = ifᵇ out.«open» then Some out.at else None
