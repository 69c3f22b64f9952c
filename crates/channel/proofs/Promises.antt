-- What the program promises, printing (section 10), showing (14.5), typing (14.3) and its worksheets (15). `TextPrinted` of specs/Printing.antt is what `print` ensures,
-- `TextShown` of specs/Showing.antt what `show` does, `TypedOut` of specs/Typing.antt what `type_text` does, and `main` writes the rest that they leave; `printed` of specs/Text.antt and `shown` are the texts.
use Rattle.std.specs.Prelude.{Some, Result}
use mathlib.Core.Path.{◌≡◌, ap, ◌∙◌}
use mathlib.Core.List.{List, [], ◌∷◌, ◌++◌, map, flatten}
use mathlib.Core.Bool.{false}
use mathlib.Core.Logic.{◌↔◌, ◌≢◌}
use Prim.Native.Nat.{ℕ, ◌+◌, ◌*◌, ◌≤◌, ◌<◌, min}
use native.Mathlib.Nat.{zero-add}
use native.Mathlib.Omega.{arith}
use lib.ListN.{length, take, drop}
use Rattle.laws.specs.Rounding.{up}
use Rattle.sheet.specs.CaseS.{sheet_s}
use Rattle.class.specs.Classes.{route_class}
use Rattle.gauge.specs.Designing.{level_steps}
use Rattle.record.specs.Counting.{greatest}
use Rattle.lines.specs.Decimals.{count_text}
use Rattle.lines.specs.Lines.{line_bytes, newline, spaced}
use Rattle.lines.specs.declared.Form.{Form}
use Rattle.lines.specs.declared.Form.TheVariants.{Alone, Both}
use Rattle.lines.proofs.Promises.{both_line_longer, both_route_line_longer}
use Rattle.design.specs.Design.{design_at}
use Rattle.design.specs.Numbers.{code_of, numbers_of}
use Rattle.design.specs.Starred.{writing}
use Rattle.design.proofs.Promises.{other_length_one}
use Rattle.both.specs.Both.{both_of}
use Rattle.worksheet.specs.Framing.{page_bytes}
use Rattle.texts.specs.Shown.{shown_bytes, sheet_bytes, shown_text}
use Rattle.texts.specs.Texts.{all_of}
use Rattle.texts.specs.Typed.{Faultless, typed_bytes}
use Rattle.channel.specs.Input.{Input, input_of, Came}
use Rattle.channel.specs.Output.{Lines, standing, with_lines, written}
use Rattle.channel.specs.Route.{no_sheets}
use Rattle.channel.specs.Text.{sheets_of, record_table, record_counts, route_after, ships_of_all, how_many_answered, how_many_came, sheet_line_in, agreed_after, how_many_agreed, route_line_of, lines_of, printed}
use Rattle.channel.specs.Printing.{file_block, input_block, TextPrinted}
use Rattle.channel.specs.Showing.{shown_texts, texts_of, shown, TextShown}
use Rattle.channel.specs.Typing.{any_fault, bytes_of_sheets, TypedOut}
use Rattle.channel.specs.Worksheets.{items_of, worksheet_lines, worksheets_text, Accepted, OverRecord}
use Rattle.channel.specs.Starred.{text_of_s}
use Rattle.channel.specs.declared.route.Route.{Route}
use Rattle.channel.specs.declared.worksheets.Source.{Source}
use Rattle.channel.specs.declared.worksheets.Source.TheVariants.{Typed}
use Rattle.channel.proofs.Lines.{all_lines}
use Rattle.channel.proofs.Cuts.{next_sheet, no_sheet, in_two, joined, how_many}
use Rattle.channel.proofs.Routes as the-route
use Rattle.channel.proofs.Starred.{sample}
use Rattle.channel.proofs.Shows.{indexed}
use Rattle.channel.proofs.Faults.{none_told_exactly}
use Rattle.datum.specs.declared.Level.{Level}
use Rattle.gauge.specs.declared.LevelFault.{LevelFault}

-- Whatever blocks the record and the sheets came in, the text is that of the record and the sheets: where the program came to its end, there are
-- the blocks that it read, each to its end, and what was written, with the rest in the buffer, is what is printed of their bytes.
pub text_is_printed : (form : Form) (buffer later : List ℕ) (rest : ℕ) → TextPrinted form buffer (Some rest) later
    → (file : Input) × Came file_block file × ((input : Input) × Came input_block input
    × (written line_bytes (lines_of form (input_of file) (input_of input)) (record { at = 0; buffer = buffer }) ++ take rest later ≡ printed form (input_of file) (input_of input)))
text_is_printed form buffer later rest ensured = ensured

-- Lines are written in their order, each once, cut into writes anywhere: what was written and what stands in the buffer are what stood there and the lines.
pub lines_in_order : (room : ℕ) (lines : List (List ℕ)) (l : Lines) → room ≤ length l.buffer
    → written room lines l ++ standing (with_lines room lines l) ≡ standing l ++ flatten lines
lines_in_order = all_lines

-- The sheets are the input, cut
pub sheets_are_the_input : (input : List ℕ) → flatten (sheets_of input) ≡ input
sheets_are_the_input = joined

-- into the first 28 bytes and then the sheets behind them,
pub first_sheet_first : (input : List ℕ) → 0 < length input → sheets_of input ≡ take 28 input ∷ sheets_of (drop 28 input)
first_sheet_first = next_sheet

pub none_left : (input : List ℕ) → length input ≡ 0 → sheets_of input ≡ []
none_left = no_sheet

-- so that there are as many as 28 bytes go into it, a short last one counted.
pub short_last_counted : (input : List ℕ) → length (sheets_of input) ≡ up (length input) 28
short_last_counted = how_many

-- How the input is cut into blocks of whole sheets changes nothing.
pub cut_changes_nothing : (sheets : ℕ) (first second : List ℕ) → length first ≡ 28 * sheets → sheets_of (first ++ second) ≡ sheets_of first ++ sheets_of second
cut_changes_nothing = in_two

-- The route after sheets
module _ (level : Result Level LevelFault) where
  -- A sheet of another length gets 1.
  pub short_gets_one : (sheet : List ℕ) → length sheet ≢ 28 → code_of (design_at sheet level) ≡ 1
  short_gets_one sheet = other_length_one sheet level

  module _ (sheets : List (List ℕ)) where
    -- R: how many sheets there are, as far as 64 bits hold,
    pub route_sheets : (route_after level no_sheets sheets).sheets ≡ min greatest (length sheets)
    route_sheets = the-route.sheets_counted level sheets no_sheets (omega arith) ∙ ap (min greatest) (zero-add (length sheets))

    -- how many have code 0,
    pub route_answered : (route_after level no_sheets sheets).answered ≡ min greatest (how_many_answered level sheets)
    route_answered = the-route.answered_counted level sheets no_sheets (omega arith) ∙ ap (min greatest) (zero-add (how_many_answered level sheets))

    -- and the smallest ship class of those.
    pub route_class_lem : (route_after level no_sheets sheets).class ≡ route_class (ships_of_all level sheets)
    route_class_lem = the-route.smallest_class level sheets no_sheets

    -- By both engines, on how many sheets they agree.
    pub agreed_counted : agreed_after Both level 0 sheets ≡ min greatest (how_many_agreed level sheets)
    agreed_counted = the-route.agreed_counted level sheets 0 (omega arith) ∙ ap (min greatest) (zero-add (how_many_agreed level sheets))

    -- They agree on every sheet that comes to its depth.
    pub all_that_came_agreed : how_many_agreed level sheets ≡ how_many_came level sheets
    all_that_came_agreed = the-route.all_agreed level sheets

-- By both engines the line of a sheet is as ever, with the plain engine's three numbers before its newline;
pub line_as_ever : (index : ℕ) (sheet : List ℕ) (level : Result Level LevelFault)
    → (text : List ℕ) × (sheet_line_in Alone index sheet level ≡ text ++ newline ∷ [])
    × (sheet_line_in Both index sheet level ≡ text ++ (spaced (map count_text (both_of sheet level).plain) ++ newline ∷ []))
line_as_ever index sheet level = both_line_longer index (numbers_of (design_at sheet level)) (both_of sheet level).plain

-- and that of the route, with on how many sheets they agree.
pub route_as_ever : (route : Route) (agreed : ℕ)
    → (text : List ℕ) × (route_line_of Alone route agreed ≡ text ++ newline ∷ []) × (route_line_of Both route agreed ≡ text ++ (spaced (count_text agreed ∷ []) ++ newline ∷ []))
route_as_ever route agreed = both_route_line_longer route.sheets route.answered route.class agreed

-- The definition's sample, to the byte: case S, and no file.
pub starred_text : printed Alone [] (writing sheet_s) ≡ text_of_s
starred_text = sample

-- Whatever blocks bytes came in that are shown, the text is theirs, likewise.
pub text_is_shown : (buffer later : List ℕ) (rest : ℕ) → TextShown buffer (Some rest) later
    → (input : Input) × Came input_block input × (written shown_bytes (texts_of (input_of input)) (record { at = 0; buffer = buffer }) ++ take rest later ≡ shown (input_of input))
text_is_shown buffer later rest ensured = ensured

-- Each sheet is shown in its place, with its index from 1, as far as 64 bits hold.
pub shown_in_place : (before : List (List ℕ)) (sheet : List ℕ) (behind : List (List ℕ))
    → shown_texts 0 (before ++ sheet ∷ behind)
    ≡ shown_texts 0 before ++ shown_text (min greatest (length before + 1)) sheet ∷ shown_texts (min greatest (length before + 1)) behind
shown_in_place = indexed

-- The word type: what was written of a text without a fault and the rest in the buffer are together the bytes of the text.
pub text_is_typed : (text buffer later : List ℕ) (rest : ℕ) → TypedOut text buffer (Some rest) later
    → written sheet_bytes (bytes_of_sheets (all_of text)) (record { at = 0; buffer = buffer }) ++ take rest later ≡ typed_bytes text
text_is_typed text buffer later rest out = out

-- It tells no fault exactly where there is none.
pub no_fault_exactly : (text : List ℕ) → (any_fault (all_of text) ≡ false) ↔ Faultless text
no_fault_exactly = none_told_exactly

-- The words worksheet and worksheet-text: whatever blocks the record came in, what was written and the rest in the buffer are together the pages of the input's sheets and
-- of their route, over that record.
pub pages_are_written : (source : Source) (input buffer later : List ℕ) (rest : ℕ) → OverRecord source input buffer (Some rest) later
    → (file : Input) × Came file_block file × (Accepted source input
    × (written page_bytes (worksheet_lines (level_steps (record_table (input_of file))) (record_counts (input_of file)) (items_of source input)) (record { at = 0; buffer = buffer })
    ++ take rest later
    ≡ worksheets_text (level_steps (record_table (input_of file))) (record_counts (input_of file)) (items_of source input)))
pages_are_written source input buffer later rest ensured = ensured

-- There are none of a text with a fault.
pub pages_of_faultless : (text buffer later : List ℕ) (rest : ℕ) → OverRecord Typed text buffer (Some rest) later → Faultless text
pages_of_faultless text buffer later rest ensured = ensured.2.0
