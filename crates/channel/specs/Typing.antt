-- A text that is typed: its faults are told, or its bytes are written (section 14.3).
use Rattle.std.specs.Prelude.{ℕ, ◌≡◌, Bool, true, false, List, [], ◌∷◌, ◌++◌, map, take, Option, Some, None}
use Rattle.laws.specs.Choice.{ifᵇ◌then◌else◌}
use Rattle.texts.specs.Shown.{sheet_bytes, sheet_text}
use Rattle.texts.specs.Texts.{all_of}
use Rattle.texts.specs.Typed.{sheet_in, sheets_of, typed_bytes}
use Rattle.texts.specs.declared.Event.{Event}
use Rattle.texts.specs.declared.Event.TheVariants.{Sheet, Fault}
use Rattle.texts.specs.declared.Found.{Found}
use Rattle.channel.specs.Output.{Lines, with_lines, written}
use Rattle.channel.specs.declared.output.Out.{Out}

-- nothing more was found
abbrev pub is_over : Option Event → Bool
is_over None = true
is_over (Some event) = false

abbrev pub is_fault : Option Event → Bool
is_fault None = false
is_fault (Some Sheet) = false
is_fault (Some (Fault fault row)) = true

-- a fault is among what was found
unfoldable pub any_fault : List Found → Bool
any_fault [] = false
any_fault (found ∷ all) = ifᵇ is_fault found.event then true else any_fault all

-- the place of what comes next, and the buffer
abbrev pub lines_at : Out → List ℕ → Lines
lines_at out buffer = record { at = out.at; buffer = buffer }

-- the bytes of the sheets of what was found
abbrev pub bytes_of_sheets : List Found → List (List ℕ)
bytes_of_sheets all = map sheet_text (sheets_of all)

-- what was found is put, where it is a sheet
abbrev pub FoundPut : Found → List ℕ → Out → List ℕ → Out → Type 0
FoundPut found buffer out later after =
    lines_at after later ≡ with_lines sheet_bytes (map sheet_text (sheet_in found.event found.cursor.figures)) (lines_at out buffer)

-- all sheets are put, from the beginning of the buffer
abbrev pub SheetsPut : List Found → List ℕ → Out → List ℕ → Type 0
SheetsPut all buffer out later =
    lines_at out later ≡ with_lines sheet_bytes (bytes_of_sheets all) (record { at = 0; buffer = buffer })

-- what was written while they were put, and the rest that stands in the buffer, are together the bytes of the text
abbrev pub TypedOut : List ℕ → List ℕ → Option ℕ → List ℕ → Type 0
TypedOut text buffer (Some rest) later =
    written sheet_bytes (bytes_of_sheets (all_of text)) (record { at = 0; buffer = buffer }) ++ take rest later ≡ typed_bytes text
TypedOut text buffer None later = Unit {0}
