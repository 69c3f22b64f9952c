-- What a typed text is, in the definition's words (section 14): its lines, its sheets, its faults and its bytes.
use Rattle.std.specs.Prelude.{◌≡◌, true, false, ◌⊎◌, ◌≢◌, ℕ, zero, suc, ◌+◌, ◌-◌, ◌*◌, ◌≤◌, ◌<◌, length, get_or, take, drop, Ok, Option, Some, None}
use mathlib.Core.List.{List, [], ◌∷◌, ◌++◌, map, flatten}
use Rattle.laws.specs.Choice.{ifᵇ◌then◌else◌}
use Rattle.laws.specs.Each.{Each}
use Rattle.laws.specs.Rows.{Row, ◌when◌}
use Rattle.sheet.specs.Fields.{field, first_bad, count as field_count}
use Rattle.sheet.specs.Packing.{size}
use Rattle.sheet.specs.Sheets.{figures_of, read_of}
use Rattle.sheet.specs.declared.Sheet.{Sheet}
use Rattle.typed.specs.Rows.{count, row_at, values_of}
use Rattle.typed.specs.Lines.{name_text, front_text, line_text}
use Rattle.typed.specs.Reading.{stands, guessed, named}
use Rattle.texts.specs.Cutting.{newline, lines_of, bare, passed_over, begins_sheet}
use Rattle.texts.specs.Messages.{message_text}
use Rattle.texts.specs.Shown.{row_figure, shown_text, sheet_text}
use Rattle.texts.specs.Steps.{fault_number}
use Rattle.texts.specs.Texts.{all_in, all_of}
use Rattle.texts.specs.declared.Cursor.{Cursor}
use Rattle.texts.specs.declared.Event.{Event}
use Rattle.texts.specs.declared.Event.TheVariants.{Sheet as SheetDone, Fault}
use Rattle.texts.specs.declared.Found.{Found}
use Rattle.texts.specs.declared.LineFault.{LineFault}
use Rattle.texts.specs.declared.Place.{Place}
use Rattle.texts.specs.declared.Stage.TheVariants.{Skipping}
use Rattle.texts.specs.declared.steps.Step.{Step}

-- of some lines, those that are not passed over, each without a carriage return at its end
unfoldable pub kept_of : List (List ℕ) → List (List ℕ)
kept_of [] = []
kept_of (line ∷ lines) = ifᵇ passed_over (bare line) then kept_of lines else bare line ∷ kept_of lines

-- the lines of a text, comments and blank lines aside
unfoldable pub kept : List ℕ → List (List ℕ)
kept text = kept_of (lines_of text)

-- all sheets and faults from a cursor on
unfoldable pub all_from : List ℕ → Cursor → List Found
all_from text cursor = all_in (length text) cursor (lines_of (drop cursor.at text))

-- how many of some lines begin a sheet
unfoldable pub beginnings : List (List ℕ) → ℕ
beginnings [] = 0
beginnings (line ∷ lines) = ifᵇ begins_sheet line then beginnings lines + 1 else beginnings lines

-- of what was found, the faults
abbrev pub fault_in : Option Event → Found → List Found
fault_in None found = []
fault_in (Some SheetDone) found = []
fault_in (Some (Fault fault row)) found = found ∷ []

unfoldable pub faults_of : List Found → List Found
faults_of [] = []
faults_of (found ∷ all) = fault_in found.event found ++ faults_of all

-- and the figures of the sheets
abbrev pub sheet_in : Option Event → List ℕ → List (List ℕ)
sheet_in None figures = []
sheet_in (Some SheetDone) figures = figures ∷ []
sheet_in (Some (Fault fault row)) figures = []

unfoldable pub sheets_of : List Found → List (List ℕ)
sheets_of [] = []
sheets_of (found ∷ all) = sheet_in found.event found.cursor.figures ++ sheets_of all

-- a text without a fault
unfoldable pub Faultless : List ℕ → Type 0
Faultless text = faults_of (all_of text) ≡ []

-- the bytes of a text: those of its sheets, one behind another, and none where it has a fault
abbrev pub bytes_by : List Found → List (List ℕ) → List ℕ
bytes_by [] sheets = flatten (map sheet_text sheets)
bytes_by (fault ∷ faults) sheets = []

unfoldable pub typed_bytes : List ℕ → List ℕ
typed_bytes text = bytes_by (faults_of (all_of text)) (sheets_of (all_of text))

-- at most so many lines of a sheet's rows, from one on
unfoldable pub row_lines : List ℕ → ℕ → ℕ → List (List ℕ)
row_lines figures i zero = []
row_lines figures i (suc most) = line_text i (row_figure figures i) ∷ row_lines figures (i + 1) most

-- the 28 lines of a sheet's figures
unfoldable pub sheet_lines : List ℕ → List (List ℕ)
sheet_lines figures = row_lines figures 0 count

-- a sheet as it is typed: the line that begins it, and its figures
pub record Titled : Type 0 where
  pub title : List ℕ
  pub figures : List ℕ

-- all their lines
unfoldable pub lines_of_all : List Titled → List (List ℕ)
lines_of_all [] = []
lines_of_all (sheet ∷ sheets) = sheet.title ∷ (sheet_lines sheet.figures ++ lines_of_all sheets)

-- their figures
abbrev pub figures_of_all : List Titled → List (List ℕ)
figures_of_all [] = []
figures_of_all (sheet ∷ sheets) = sheet.figures ∷ figures_of_all sheets

-- the figures of a sheet: one for each field, and none bad
pub record SheetFigures (figures : List ℕ) : Type 0 where
  pub each_field : length figures ≡ field_count
  pub none_bad : first_bad figures ≡ 0

-- a sheet that is typed as it should be: its title begins a sheet, and its figures are a sheet's
pub record Proper (sheet : Titled) : Type 0 where
  pub begins : begins_sheet sheet.title ≡ true
  pub figures_fine : SheetFigures sheet.figures

-- a text that is typed as some sheets: its lines, comments and blank lines aside, are theirs
pub record TypedAs (text : List ℕ) (sheets : List Titled) : Type 0 where
  pub lines : kept text ≡ lines_of_all sheets
  pub each_proper : Each Proper sheets

-- The sheet after the first j of a text: its 28 bytes are read as a sheet, and each of its 28 lines, behind the one that begins it, is
-- that of the row's figure in the sheet that was read.
pub record TypedAndRead (text : List ℕ) (j : ℕ) : Type 0 where
  pub sheet : Sheet
  pub read : read_of (take size (drop (28 * j) (typed_bytes text))) ≡ Ok sheet
  pub its_figures : figures_of sheet ≡ get_or (sheets_of (all_of text)) j []
  pub its_title : begins_sheet (get_or (kept text) (29 * j) []) ≡ true
  pub its_rows : (i : ℕ) → i < count → get_or (kept text) (29 * j + 1 + i) [] ≡ line_text i (row_figure (figures_of sheet) i)

-- the number of what a line brings: the fault's, 0 where there is none
abbrev pub event_number : Option Event → ℕ
event_number None = 0
event_number (Some SheetDone) = 0
event_number (Some (Fault fault row)) = fault_number fault

-- the figure that a line has in the row after the first k
abbrev pub figure_at : ℕ → List ℕ → ℕ
figure_at k line = guessed (row_at k) (drop (length (name_text (row_at k))) line)

-- turn and radius disagree: one is 0 and the other is not
abbrev pub Disagree : ℕ → ℕ → Type 0
Disagree turn radius = ((turn ≡ 0) × (radius ≢ 0)) ⊎ ((turn ≢ 0) × (radius ≡ 0))

-- The numbers that turn a line away in the place of the row after the first k, in their order (14.3). The figures are those of the rows
-- before it.
abbrev pub line_rows : ℕ → List ℕ → List ℕ → List Row
line_rows k figures line =
    (2 when (begins_sheet line ≡ true))
    ∷ (3 when ((i : ℕ) → i < count → named line i ≡ false))
    ∷ (4 when ((i : ℕ) × (i < k) × (named line i ≡ true)))
    ∷ (5 when ((i : ℕ) × (k < i) × (i < count) × (named line i ≡ true)))
    ∷ (6 when (stands (front_text (row_at k) (figure_at k line)) line ≡ false))
    ∷ (7 when (line ≢ line_text k (figure_at k line)))
    ∷ (8 when ((figure_at k line < (values_of k).least) ⊎ ((values_of k).greatest < figure_at k line)))
    ∷ (9 when ((k ≡ 25) × Disagree (field figures 25) (figure_at k line)))
    ∷ []

-- a step that turns a line away: the fault names the row that was to stand there, and the lines behind it are passed over
pub record RefusedAt (k : ℕ) (s : Step) : Type 0 where
  pub fault : LineFault
  pub told : s.event ≡ Some (Fault fault k)
  pub then_skips : s.stage ≡ Skipping

-- the messages of a text, in the order of its faults
abbrev pub message_in : List ℕ → Option Event → Place → List (List ℕ)
message_in text None place = []
message_in text (Some SheetDone) place = []
message_in text (Some (Fault fault row)) place = message_text text fault row place ∷ []

unfoldable pub messages_in : List ℕ → List Found → List (List ℕ)
messages_in text [] = []
messages_in text (found ∷ all) = message_in text found.event found.place ++ messages_in text all

unfoldable pub messages_of : List ℕ → List (List ℕ)
messages_of text = messages_in text (all_of text)

-- a kept line: one that begins a sheet, or that of a row's figure
pub data LineKind (line : List ℕ) : Type 0 where
  begins : begins_sheet line ≡ true → LineKind line
  row : (i n : ℕ) → i < count → line ≡ line_text i n → LineKind line

-- A place of a text: the bytes of the line of its number, a carriage return at its end aside; or behind the last line.
pub data PlaceIn (text : List ℕ) (place : Place) : Type 0 where
  on_line : place.ended ≡ false → 1 ≤ place.line → place.line ≤ length (lines_of text)
      → take (place.end - place.start) (drop place.start text) ≡ bare (get_or (lines_of text) (place.line - 1) [])
      → PlaceIn text place
  behind_last : place.ended ≡ true → place.line ≡ length (lines_of text) + 1 → PlaceIn text place

-- the text of some lines, each with its newline
unfoldable pub text_of : List (List ℕ) → List ℕ
text_of [] = []
text_of (line ∷ lines) = line ++ (newline ∷ text_of lines)

-- a line that stays the same in a text: it has no newline, and no carriage return at its end
pub record OneLine (line : List ℕ) : Type 0 where
  pub no_newline : Each (λ (b : ℕ). b ≢ newline) line
  pub no_return : bare line ≡ line

-- bytes that are a sheet
abbrev pub IsSheet : List ℕ → Type 0
IsSheet bytes = (sheet : Sheet) × (read_of bytes ≡ Ok sheet)

-- the texts of some bytes one behind another, with their indices
unfoldable pub shown_all : ℕ → List (List ℕ) → List ℕ
shown_all index [] = []
shown_all index (bytes ∷ rest) = shown_text index bytes ++ shown_all (index + 1) rest
