-- What typed texts promise, in the definition's words (section 14). Each proof stands where it is cited.
use Rattle.std.specs.Prelude.{Ok, Err, None}
use mathlib.Core.Path.{◌≡◌, sym, ◌∙◌}
use mathlib.Core.Bool.{true, false}
use mathlib.Core.List.{List, [], ◌∷◌, ◌++◌, map, flatten, Memᴰ}
use mathlib.Core.Logic.{◌↔◌, ◌⊎◌, ◌≢◌}
use Prim.Native.Nat.{ℕ, ◌+◌, ◌-◌, ◌*◌, ◌^◌, ◌≤◌, ◌<◌}
use lib.ListN.{length, get_or, drop}
use Rattle.laws.specs.Choice.{ifᵇ◌then◌else◌}
use Rattle.laws.specs.Each.{Each}
use Rattle.laws.specs.Rows.{Exactly}
use Rattle.laws.proofs.Unique.{one_answer}
use Rattle.lines.specs.Lines.{place_within, buffer_within}
use Rattle.sheet.specs.CaseS.{sheet_s, bytes_s}
use Rattle.sheet.specs.Fields.{field, count as field_count}
use Rattle.sheet.specs.Packing.{Bytes}
use Rattle.sheet.specs.Sheets.{figures_of, read_of}
use Rattle.sheet.specs.declared.ReadFault.{ReadFault}
use Rattle.sheet.specs.declared.Sheet.{Sheet}
use Rattle.typed.specs.Rows.{bytes_of, count, level_row}
use Rattle.typed.specs.Lines.{line_text}
use Rattle.typed.specs.Reading.{named}
use Rattle.texts.specs.Cutting.{lines_of, bare, begins_sheet}
use Rattle.texts.specs.Messages.{message_bytes, shown, quoted_text, stood_text, message_text}
use Rattle.texts.specs.Names.{name_from, bytes_in, name_after}
use Rattle.texts.specs.Shown.{row_figure, shown_bytes, shown_text, form_bytes, form_text, sheet_bytes, sheet_text}
use Rattle.texts.specs.Steps.{fault_number, step, step_of}
use Rattle.texts.specs.Texts.{beginning, happened_in, next_of, all_of}
use Rattle.texts.specs.Typed.{kept, all_from, beginnings, sheets_of, Faultless, typed_bytes, sheet_lines, Titled, lines_of_all, figures_of_all, SheetFigures, Proper, TypedAs, TypedAndRead, event_number, line_rows, RefusedAt, messages_of, LineKind, PlaceIn, text_of, OneLine, IsSheet, shown_all}
use Rattle.texts.specs.declared.Cursor.{Cursor}
use Rattle.texts.specs.declared.Found.{Found}
use Rattle.texts.specs.declared.LineFault.{LineFault}
use Rattle.texts.specs.declared.Place.{Place}
use Rattle.texts.specs.declared.Span.{Span}
use Rattle.texts.specs.declared.Stage.TheVariants.{Between, InRow, Skipping}
use Rattle.texts.proofs.meaning.Again.{one_typed, one_again, one_refused, typed_again, shown_exactly}
use Rattle.texts.proofs.meaning.Complete.{row_before_field, row_last, row_record, row_level, complete_text}
use Rattle.texts.proofs.meaning.Faults.{no_bytes, number_within, number_one, all_places, stood_there}
use Rattle.texts.proofs.meaning.Form.{form_refused}
use Rattle.texts.proofs.meaning.Names.{name_bytes, name_of_title, name_of_none}
use Rattle.texts.proofs.meaning.Numbers.{number_exactly, number_1_exactly, skipped, refused_once}
use Rattle.texts.proofs.meaning.Ones.{same_sheets, same_faultless, same_bytes, figures_of_lines, figures_of_bytes, sheets_of_bytes}
use Rattle.texts.proofs.meaning.Places.{typed_and_read, text_sizes, named_line}
use Rattle.texts.proofs.meaning.Sample.{text_of_s, text_no_figure, text_missing, typed_s_lem, bytes_s_lem, message_2, message_6, message_8}
use Rattle.texts.proofs.meaning.Sizes.{sheet_fits, form_fits, shown_fits, message_fits}
use Rattle.texts.proofs.meaning.Stepping.{all_next, all_over, moves_on, all_from_beginning}
use Rattle.texts.proofs.meaning.Wholes.{faultless_exactly, one_way, each_fine, each_line, one_each}
use Rattle.texts.proofs.meaning.Writing.{written_typed}

-- Reading by steps: all that a text brings is all from its beginning on.
pub all_from_its_beginning : (text : List ℕ) → all_of text ≡ all_from text beginning
all_from_its_beginning = all_from_beginning

-- What the next step finds is the first of all that is left, and from its cursor on the rest is left.
pub next_is_first : (text : List ℕ) (cursor : Cursor) → happened_in (next_of text cursor).event ≡ true
    → all_from text cursor ≡ next_of text cursor ∷ all_from text (next_of text cursor).cursor
next_is_first = all_next

-- Where it finds nothing, nothing is left.
pub nothing_is_last : (text : List ℕ) (cursor : Cursor) → happened_in (next_of text cursor).event ≡ false → all_from text cursor ≡ []
nothing_is_last = all_over

-- No step goes back.
pub never_back : (text : List ℕ) (cursor : Cursor) → cursor.at ≤ (next_of text cursor).cursor.at
never_back = moves_on

-- A text is accepted exactly when its lines, comments and blank lines aside, are those of sheets.
pub accepted_exactly : (text : List ℕ) → Faultless text ↔ ((sheets : List Titled) × TypedAs text sheets)
accepted_exactly = faultless_exactly

-- Those sheets are the text's, in their order.
pub sheets_as_typed : (text : List ℕ) (sheets : List Titled) → TypedAs text sheets → sheets_of (all_of text) ≡ figures_of_all sheets
sheets_as_typed text sheets t = (complete_text text sheets t).1

-- A text is typed as one list of sheets, no other.
pub typed_one_way : (text : List ℕ) (sheets others : List Titled) → TypedAs text sheets → TypedAs text others → sheets ≡ others
typed_one_way = one_way

-- The figures of each of them are a sheet's: one for each field, and none bad.
pub sheets_are_fine : (text : List ℕ) → Faultless text → Each SheetFigures (sheets_of (all_of text))
sheets_are_fine = each_fine

-- There is one for each line that begins one.
pub one_for_each_beginning : (text : List ℕ) → Faultless text → length (sheets_of (all_of text)) ≡ beginnings (kept text)
one_for_each_beginning = one_each

-- The promise to the engineer: sheet by sheet, the bytes are read as a sheet, and on the line of each row stands that sheet's figure.
pub typed_as_read : (text : List ℕ) → Faultless text → (j : ℕ) → j < length (sheets_of (all_of text)) → TypedAndRead text j
typed_as_read = typed_and_read

-- A text of n sheets has 29 n lines, comments and blank lines aside, and 28 n bytes.
pub none_left_over : (text : List ℕ) → Faultless text
    → (length (kept text) ≡ 29 * length (sheets_of (all_of text))) × (length (typed_bytes text) ≡ 28 * length (sheets_of (all_of text)))
none_left_over = text_sizes

-- The line of a sheet that has a row's name is that of the row's figure.
pub named_line_says : (figures line : List ℕ) (i : ℕ) → i < count → Memᴰ line (sheet_lines figures) → named line i ≡ true
    → line ≡ line_text i (row_figure figures i)
named_line_says = named_line

-- The figure of a row is that of its field; the level's is 0 where field 27 is 0, and else one more than field 28.
pub row_of_field : (figures : List ℕ) (i : ℕ) → i < level_row → row_figure figures i ≡ field figures (i + 1)
row_of_field = row_before_field

pub row_of_slope : (figures : List ℕ) → row_figure figures 27 ≡ field figures 29
row_of_slope = row_last

pub row_of_record : (figures : List ℕ) → field figures 27 ≡ 0 → row_figure figures level_row ≡ 0
row_of_record = row_record

pub row_of_level : (figures : List ℕ) → SheetFigures figures → field figures 27 ≢ 0 → row_figure figures level_row ≡ field figures 28 + 1
row_of_level = row_level

-- The lines of sheets, each with its newline, are such a text: it is accepted, and its sheets are those.
pub written_is_accepted : (sheets : List Titled) → Each Proper sheets → Each (λ s. OneLine s.title) sheets
    → Faultless (text_of (lines_of_all sheets)) × (sheets_of (all_of (text_of (lines_of_all sheets))) ≡ figures_of_all sheets)
written_is_accepted sheets p q = complete_text (text_of (lines_of_all sheets)) sheets (written_typed sheets p q)

-- Comments, blank lines and carriage returns change nothing: texts with the same kept lines have the same sheets and bytes, or both a fault.
pub kept_lines_tell : (text other : List ℕ) → kept text ≡ kept other
    → (Faultless text ↔ Faultless other) × (sheets_of (all_of text) ≡ sheets_of (all_of other)) × (typed_bytes text ≡ typed_bytes other)
kept_lines_tell text other e = ((same_faultless text other e, same_faultless other text (sym e)), same_sheets text other e, same_bytes text other e)

-- One text each: two texts of the same titles and figures have the same kept lines.
pub one_text : (text other : List ℕ) (sheets : List Titled) → TypedAs text sheets → TypedAs other sheets → kept text ≡ kept other
one_text text other sheets s t = s.lines ∙ sym t.lines

-- Two sheets' figures with the same lines are the same, and so are two with the same bytes.
pub figures_of_their_lines : (figures others : List ℕ) → SheetFigures figures → SheetFigures others → sheet_lines figures ≡ sheet_lines others → figures ≡ others
figures_of_their_lines = figures_of_lines

pub figures_of_their_bytes : (figures others : List ℕ) → SheetFigures figures → SheetFigures others → sheet_text figures ≡ sheet_text others → figures ≡ others
figures_of_their_bytes = figures_of_bytes

-- Two accepted texts with the same bytes have the same sheets.
pub sheets_of_their_bytes : (text other : List ℕ) → Faultless text → Faultless other → typed_bytes text ≡ typed_bytes other
    → sheets_of (all_of text) ≡ sheets_of (all_of other)
sheets_of_their_bytes = sheets_of_bytes

-- The name of a sheet, as it is typed: its part of the text has the bytes behind `sheet` and a space, on the first line from a place on that
-- begins a sheet; none where there is no such line.
pub name_is_typed : (text : List ℕ) (from : ℕ) → bytes_in text (name_after text from) ≡ name_from (lines_of (drop from text))
name_is_typed = name_bytes

-- The name of a line `sheet`, a space and a name is that name; `sheet` alone has none.
pub name_of_titled : (name : List ℕ) (lines : List (List ℕ)) → OneLine (bytes_of "sheet " ++ name) → name_from ((bytes_of "sheet " ++ name) ∷ lines) ≡ name
name_of_titled = name_of_title

pub no_name_of_untitled : (lines : List (List ℕ)) → name_from (bytes_of "sheet" ∷ lines) ≡ []
no_name_of_untitled = name_of_none

-- Each kept line of an accepted text begins a sheet or is that of a row's figure.
pub every_line_means : (text : List ℕ) → Faultless text → (line : List ℕ) → Memᴰ line (kept text) → LineKind line
every_line_means = each_line

-- Shown and typed again: the text of a sheet's bytes is accepted, has its figures, and its bytes are those that were shown.
pub shown_is_accepted : (index : ℕ) (bytes : List ℕ) (s : Sheet) → read_of bytes ≡ Ok s
    → Faultless (shown_text index bytes) × (sheets_of (all_of (shown_text index bytes)) ≡ figures_of s ∷ [])
shown_is_accepted = one_typed

pub shown_and_typed : (index : ℕ) (bytes : List ℕ) → IsSheet bytes → Bytes bytes → typed_bytes (shown_text index bytes) ≡ bytes
shown_and_typed = one_again

-- Bytes that are no sheet are never silently typed: their text has a fault.
pub shown_refused : (index : ℕ) (bytes : List ℕ) (fault : ReadFault) → read_of bytes ≡ Err fault → Faultless (shown_text index bytes) → ⊥
shown_refused = one_refused

-- The same of many, one behind another.
pub all_shown_exactly : (index : ℕ) (all : List (List ℕ)) → Faultless (shown_all index all) ↔ Each IsSheet all
all_shown_exactly = shown_exactly

pub all_shown_and_typed : (index : ℕ) (all : List (List ℕ)) → Each IsSheet all → Each Bytes all → typed_bytes (shown_all index all) ≡ flatten all
all_shown_and_typed = typed_again

-- The empty form is turned away until it is filled in.
pub form_turned_away : Faultless form_text → ⊥
form_turned_away = form_refused

-- Numbers 2 to 9: where a row was to stand, a number is told exactly when it holds and none before it does, and none where none holds.
pub turned_away : (figures : List ℕ) (k : ℕ) (line : List ℕ) → k < count → length figures ≡ field_count
    → Exactly (line_rows k figures line) (event_number (step_of (InRow k) figures line).event)
turned_away = number_exactly

-- 1: where no sheet is begun, a line that begins none.
pub turned_away_1 : (figures line : List ℕ) → (event_number (step_of Between figures line).event ≡ 1) ↔ (begins_sheet line ≡ false)
turned_away_1 = number_1_exactly

-- A fault names the row that was to stand there, and the lines behind it are passed over.
pub turned_away_once : (figures : List ℕ) (k : ℕ) (line : List ℕ) → begins_sheet line ≡ false
    → (event_number (step_of (InRow k) figures line).event ≡ 0) ⊎ RefusedAt k (step_of (InRow k) figures line)
turned_away_once = refused_once

pub passed_over_behind : (figures line : List ℕ) → begins_sheet line ≡ false → step_of Skipping figures line ≡ step Skipping figures None
passed_over_behind = skipped

-- No bytes of a text with a fault.
pub no_bytes_of_a_fault : (text : List ℕ) → (Faultless text → ⊥) → typed_bytes text ≡ []
no_bytes_of_a_fault = no_bytes

-- Each fault has a number of its own, from 1 to 9.
pub fault_numbers : (fault : LineFault) → (1 ≤ fault_number fault) × (fault_number fault ≤ 9)
fault_numbers = number_within

pub fault_of_number : (fault other : LineFault) → fault_number fault ≡ fault_number other → fault ≡ other
fault_of_number = number_one

-- Whatever is found is told at its place: by the number of its line and that line's bytes, or behind the last line.
pub found_at_its_place : (text : List ℕ) → length (lines_of text) < 4294967295 → Each (λ f. PlaceIn text f.place) (all_of text)
found_at_its_place = all_places

-- A message quotes the line of its number, or says that the text ends.
pub message_quotes_its_line : (text : List ℕ) (place : Place) → PlaceIn text place
    → stood_text text place ≡ (ifᵇ place.ended then bytes_of "the text ends" else quoted_text (bare (get_or (lines_of text) (place.line - 1) [])))
message_quotes_its_line = stood_there

-- No text is longer than the bytes that it is given: a message than 1,024, a shown sheet than 4,096, the form than 20,000, a sheet than 28.
pub message_fits_room : (text : List ℕ) (fault : LineFault) (row : ℕ) (place : Place) → place.line < 2 ^ 64
    → length (message_text text fault row place) ≤ message_bytes
message_fits_room = message_fits

pub shown_fits_room : (index : ℕ) (bytes : List ℕ) → index < 2 ^ 64 → length (shown_text index bytes) ≤ shown_bytes
shown_fits_room = shown_fits

pub form_fits_room : length form_text ≤ form_bytes
form_fits_room = form_fits

pub sheet_fits_room : (figures : List ℕ) → length (sheet_text figures) ≤ sheet_bytes
sheet_fits_room = sheet_fits

-- One result of each call, and one later content of the buffer.
pub next_unique : (text : List ℕ) (cursor : Cursor) (r s : Found) → r ≡ next_of text cursor → s ≡ next_of text cursor → r ≡ s
next_unique text cursor = one_answer

pub begin_unique : (r s : Cursor) → r ≡ beginning → s ≡ beginning → r ≡ s
begin_unique = one_answer

pub fault_number_unique : (fault : LineFault) (r s : ℕ) → r ≡ fault_number fault → s ≡ fault_number fault → r ≡ s
fault_number_unique fault = one_answer

pub name_unique : (text : List ℕ) (from : ℕ) (r s : Span) → r ≡ name_after text from → s ≡ name_after text from → r ≡ s
name_unique text from = one_answer

pub row_figure_unique : (figures : List ℕ) (i r s : ℕ) → r ≡ row_figure figures i → s ≡ row_figure figures i → r ≡ s
row_figure_unique figures i = one_answer

pub message_place_unique : (text : List ℕ) (fault : LineFault) (row : ℕ) (place : Place) (at : ℕ) (buffer : List ℕ) (r s : ℕ)
    → r ≡ place_within message_bytes (message_text text fault row place) at buffer
    → s ≡ place_within message_bytes (message_text text fault row place) at buffer
    → r ≡ s
message_place_unique text fault row place at buffer = one_answer

pub message_buffer_unique : (text : List ℕ) (fault : LineFault) (row : ℕ) (place : Place) (at : ℕ) (buffer now later : List ℕ)
    → now ≡ buffer_within message_bytes (message_text text fault row place) at buffer
    → later ≡ buffer_within message_bytes (message_text text fault row place) at buffer
    → now ≡ later
message_buffer_unique text fault row place at buffer = one_answer

pub visible_place_unique : (bytes : List ℕ) (at : ℕ) (buffer : List ℕ) (r s : ℕ)
    → r ≡ place_within (length bytes) (map shown bytes) at buffer → s ≡ place_within (length bytes) (map shown bytes) at buffer → r ≡ s
visible_place_unique bytes at buffer = one_answer

pub visible_buffer_unique : (bytes : List ℕ) (at : ℕ) (buffer now later : List ℕ)
    → now ≡ buffer_within (length bytes) (map shown bytes) at buffer → later ≡ buffer_within (length bytes) (map shown bytes) at buffer
    → now ≡ later
visible_buffer_unique bytes at buffer = one_answer

pub shown_place_unique : (index : ℕ) (bytes : List ℕ) (at : ℕ) (buffer : List ℕ) (r s : ℕ)
    → r ≡ place_within shown_bytes (shown_text index bytes) at buffer → s ≡ place_within shown_bytes (shown_text index bytes) at buffer → r ≡ s
shown_place_unique index bytes at buffer = one_answer

pub shown_buffer_unique : (index : ℕ) (bytes : List ℕ) (at : ℕ) (buffer now later : List ℕ)
    → now ≡ buffer_within shown_bytes (shown_text index bytes) at buffer → later ≡ buffer_within shown_bytes (shown_text index bytes) at buffer
    → now ≡ later
shown_buffer_unique index bytes at buffer = one_answer

pub form_place_unique : (at : ℕ) (buffer : List ℕ) (r s : ℕ)
    → r ≡ place_within form_bytes form_text at buffer → s ≡ place_within form_bytes form_text at buffer → r ≡ s
form_place_unique at buffer = one_answer

pub form_buffer_unique : (at : ℕ) (buffer now later : List ℕ)
    → now ≡ buffer_within form_bytes form_text at buffer → later ≡ buffer_within form_bytes form_text at buffer → now ≡ later
form_buffer_unique at buffer = one_answer

pub sheet_place_unique : (figures : List ℕ) (at : ℕ) (buffer : List ℕ) (r s : ℕ)
    → r ≡ place_within sheet_bytes (sheet_text figures) at buffer → s ≡ place_within sheet_bytes (sheet_text figures) at buffer → r ≡ s
sheet_place_unique figures at buffer = one_answer

pub sheet_buffer_unique : (figures : List ℕ) (at : ℕ) (buffer now later : List ℕ)
    → now ≡ buffer_within sheet_bytes (sheet_text figures) at buffer → later ≡ buffer_within sheet_bytes (sheet_text figures) at buffer
    → now ≡ later
sheet_buffer_unique figures at buffer = one_answer

-- Case S: its text, line by line, is accepted, and its bytes are those of S.
pub starred_text : Faultless (bytes_of text_of_s) × (sheets_of (all_of (bytes_of text_of_s)) ≡ figures_of sheet_s ∷ [])
starred_text = typed_s_lem

pub starred_bytes : typed_bytes (bytes_of text_of_s) ≡ bytes_s
starred_bytes = bytes_s_lem

-- The messages of the definition: a figure that is none, and a row that is missing; and a figure outside its range.
pub starred_no_figure : messages_of (bytes_of text_no_figure)
    ≡ bytes_of "line 18: T6 no such figure: \"cross-current 1 kn\"; expected: cross-current 0.0 kn .. cross-current 6.0 kn\n" ∷ []
starred_no_figure = message_6

pub starred_missing : messages_of (bytes_of text_missing)
    ≡ bytes_of "line 30: T2 a row is missing: the text ends; expected: side-slope 0 m/m .. side-slope 30 m/m\n" ∷ []
starred_missing = message_2

pub starred_outside : messages_of (bytes_of "sheet\ndeadweight 0 t\n")
    ≡ bytes_of "line 2: T8 outside its range: \"deadweight 0 t\"; expected: deadweight 1 t .. deadweight 600000 t\n" ∷ []
starred_outside = message_8
