-- The sheets and the faults of a text, one after another (section 14.3).
use Rattle.std.specs.Prelude.{ℕ, ◌+◌, min, Bool, true, false, List, [], ◌∷◌, ◌++◌, Option, Some, None, length, drop, replicate}
use Rattle.laws.specs.Choice.{ifᵇ◌then◌else◌}
use Rattle.sheet.specs.Fields.{count as field_count}
use Rattle.texts.specs.Cutting.{lines_of, bare, next_number}
use Rattle.texts.specs.Steps.{missing_at, line_step}
use Rattle.texts.specs.declared.Cursor.{Cursor}
use Rattle.texts.specs.declared.Event.{Event}
use Rattle.texts.specs.declared.Found.{Found}
use Rattle.texts.specs.declared.Stage.TheVariants.{Between}
use Rattle.texts.specs.declared.steps.Step.{Step}

-- before the first line
abbrev pub beginning : Cursor
beginning = record { at = 0; lines = 0; stage = Between; figures = replicate field_count 0 }

abbrev pub happened_in : Option Event → Bool
happened_in None = false
happened_in (Some event) = true

-- what a step of a line finds in a text of so many bytes
abbrev pub found_by : ℕ → Cursor → List ℕ → Step → Found
found_by bytes cursor line s =
    record {
      event = s.event;
      place = record {
        line = next_number cursor.lines;
        start = cursor.at;
        end = cursor.at + length (bare line);
        ended = false;
      };
      cursor = record {
        at = min (cursor.at + length line + 1) bytes;
        lines = next_number cursor.lines;
        stage = s.stage;
        figures = s.figures;
      };
    }

-- one line more
unfoldable pub turn_on : ℕ → Cursor → List ℕ → Found
turn_on bytes cursor line = found_by bytes cursor line (line_step cursor.stage cursor.figures (bare line))

-- behind the last line
unfoldable pub ended_at : Cursor → Found
ended_at cursor =
    record {
      event = missing_at cursor.stage;
      place = record { line = next_number cursor.lines; start = cursor.at; end = cursor.at; ended = true };
      cursor = record { at = cursor.at; lines = cursor.lines; stage = Between; figures = cursor.figures };
    }

-- the first thing that lines bring
unfoldable pub found_in : ℕ → Cursor → List (List ℕ) → Found
found_in bytes cursor [] = ended_at cursor
found_in bytes cursor (line ∷ lines) =
    let found = turn_on bytes cursor line in
    ifᵇ happened_in found.event then found else found_in bytes found.cursor lines

-- the next sheet or fault from a cursor on
unfoldable pub next_of : List ℕ → Cursor → Found
next_of text cursor = found_in (length text) cursor (lines_of (drop cursor.at text))

-- what is found, where something is
abbrev pub if_happened : Found → List Found
if_happened found = ifᵇ happened_in found.event then found ∷ [] else []

-- all that lines bring, in their order
unfoldable pub all_in : ℕ → Cursor → List (List ℕ) → List Found
all_in bytes cursor [] = if_happened (ended_at cursor)
all_in bytes cursor (line ∷ lines) = let found = turn_on bytes cursor line in if_happened found ++ all_in bytes found.cursor lines

-- all sheets and faults of a text
unfoldable pub all_of : List ℕ → List Found
all_of text = all_in (length text) beginning (lines_of text)
