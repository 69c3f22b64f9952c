-- What the typed lines promise, in the definition's words (section 14). Each proof stands where it is cited.
use Rattle.std.specs.Prelude.{Result, Ok, Err, Option, Some, None}
use mathlib.Core.Path.{◌≡◌}
use mathlib.Core.Bool.{Bool, true, false}
use mathlib.Core.List.{List, map}
use mathlib.Core.Logic.{◌↔◌, ◌≢◌}
use Prim.Native.Nat.{ℕ, ◌^◌, ◌≤◌, ◌<◌}
use lib.ListN.{length, get_or, drop}
use Rattle.laws.specs.Each.{Each}
use Rattle.laws.proofs.Unique.{one_answer}
use Rattle.lines.specs.Lines.{place_within, buffer_within}
use Rattle.typed.specs.Rows.{bytes_of, count, row_at, values_of}
use Rattle.typed.specs.Lines.{line_bytes, expected_bytes, name_text, front_text, line_text, blank_text, expected_text}
use Rattle.typed.specs.Reading.{stands, guessed, entry_of, named, row_named}
use Rattle.typed.specs.declared.EntryFault.TheVariants.{NoName, NoFigure, NoUnit}
use Rattle.typed.specs.declared.Kind.TheVariants.{Words}
use Rattle.typed.proofs.meaning.Bytes.{line_plain, no_control, first_byte, some_bytes, line_fits, expected_plain, expected_fits, blank_plain, blank_fits}
use Rattle.typed.proofs.meaning.Complete.{complete, complete_number, exactly, one_line, blank_no_figure}
use Rattle.typed.proofs.meaning.Names.{own_name, other_name, one_name, row_within, row_exactly, no_row_exactly, line_row, no_name_row, begins_no_title, is_no_sheet}
use Rattle.typed.proofs.meaning.Sample.{lines_s, expected_texts_lem, blank_lines_lem, tenths_line, below_line, record_line, word_line, no_tenths}
use Rattle.typed.proofs.meaning.Starred.{figures_of_s, in_each_row, lines_of_s, expected_texts, blank_lines}
use Rattle.typed.proofs.meaning.Ways.{no_name_exactly, no_figure_exactly, no_unit_exactly, figure_exactly, sound}
use Rattle.typed.specs.declared.EntryFault.{EntryFault}

-- A line says a figure only if it is the figure's line.
pub figure_of_line : (i : ℕ) (line : List ℕ) (n : ℕ) → entry_of i line ≡ Ok n → line ≡ line_text i n
figure_of_line = sound

-- The line of a figure up to its row's greatest says that figure.
pub line_says_figure : (i n : ℕ) → i < count → n ≤ (values_of i).greatest → entry_of i (line_text i n) ≡ Ok n
line_says_figure = complete

-- So does the line of a number of at most nine digits that is outside its row's values.
pub line_says_number : (i n : ℕ) → (row_at i).kind ≢ Words → n < 1000000000 → entry_of i (line_text i n) ≡ Ok n
line_says_number = complete_number

-- A line says a figure exactly when it is the figure's line.
pub says_exactly : (i n : ℕ) (line : List ℕ) → i < count → n ≤ (values_of i).greatest → (entry_of i line ≡ Ok n) ↔ (line ≡ line_text i n)
says_exactly = exactly

-- Two figures with one line are one figure of one row.
pub one_line_one_figure : (i j m n : ℕ) → i < count → j < count → m ≤ (values_of i).greatest → n ≤ (values_of j).greatest
    → line_text i m ≡ line_text j n → (i ≡ j) × (m ≡ n)
one_line_one_figure = one_line

-- A line has its own row's name and no other's, whatever its figure.
pub has_own_name : (i n : ℕ) → named (line_text i n) i ≡ true
has_own_name = own_name

pub has_no_other_name : (i j n : ℕ) → i < count → j < count → i ≢ j → named (line_text i n) j ≡ false
has_no_other_name = other_name

-- No line has two rows' names.
pub never_two_names : (line : List ℕ) (i j : ℕ) → i < count → j < count → i ≢ j → named line i ≡ true → named line j ≡ false
never_two_names = one_name

-- The row that is told is the one whose name the line has; none is told exactly when it has none.
pub row_named_exactly : (line : List ℕ) (i : ℕ) → i < count → (row_named line ≡ Some i) ↔ (named line i ≡ true)
row_named_exactly = row_exactly

pub no_row_named_exactly : (line : List ℕ) → (row_named line ≡ None) ↔ ((i : ℕ) → i < count → named line i ≡ false)
no_row_named_exactly = no_row_exactly

pub row_named_within : (line : List ℕ) (i : ℕ) → row_named line ≡ Some i → i < count
row_named_within = row_within

pub line_names_row : (i n : ℕ) → i < count → row_named (line_text i n) ≡ Some i
line_names_row = line_row

-- No name is told exactly when the line has another row's, or none.
pub no_name_by_row : (i : ℕ) (line : List ℕ) → i < count → (entry_of i line ≡ (Err NoName)) ↔ (row_named line ≢ Some i)
no_name_by_row = no_name_row

-- Each way out of reading a line, exactly when it is taken: no name; a name, and no figure behind it; a figure, and not its unit; the figure's line.
pub no_name : (i : ℕ) (line : List ℕ) → (entry_of i line ≡ (Err NoName)) ↔ (named line i ≡ false)
no_name = no_name_exactly

pub no_figure : (i : ℕ) (line : List ℕ)
    → (entry_of i line ≡ (Err NoFigure))
    ↔ ((named line i ≡ true) × (stands (front_text (row_at i) (guessed (row_at i) (drop (length (name_text (row_at i))) line))) line ≡ false))
no_figure = no_figure_exactly

pub no_unit : (i : ℕ) (line : List ℕ)
    → (entry_of i line ≡ (Err NoUnit))
    ↔ ((stands (front_text (row_at i) (guessed (row_at i) (drop (length (name_text (row_at i))) line))) line ≡ true)
    × (line ≢ line_text i (guessed (row_at i) (drop (length (name_text (row_at i))) line))))
no_unit = no_unit_exactly

pub figure : (i : ℕ) (line : List ℕ) (n : ℕ)
    → (entry_of i line ≡ Ok n) ↔ ((n ≡ guessed (row_at i) (drop (length (name_text (row_at i))) line)) × (line ≡ line_text i n))
figure = figure_exactly

-- A row left as in the empty form says no figure.
pub blank_says_none : (i : ℕ) → i < count → entry_of i (blank_text i) ≡ (Err NoFigure)
blank_says_none = blank_no_figure

-- No line is longer than its 80 bytes, and what is expected in a row no longer than its 512.
pub line_fits_room : (i n : ℕ) → i < count → n < 2 ^ 32 → length (line_text i n) ≤ line_bytes
line_fits_room = line_fits

pub blank_fits_room : (i : ℕ) → length (blank_text i) ≤ line_bytes
blank_fits_room = blank_fits

pub expected_fits_room : (i : ℕ) → length (expected_text i) ≤ expected_bytes
expected_fits_room = expected_fits

-- No byte is below a space: no newline, no carriage return, no tab.
pub line_has_no_newline : (i n : ℕ) → i < count → Each (λ (b : ℕ). 32 ≤ b) (line_text i n)
line_has_no_newline = no_control

-- Every byte is a space or a sign from `!` to `~`.
pub line_in_print : (i n : ℕ) → i < count → Each (λ (b : ℕ). (32 ≤ b) × (b ≤ 126)) (line_text i n)
line_in_print = line_plain

pub blank_in_print : (i : ℕ) → Each (λ (b : ℕ). (32 ≤ b) × (b ≤ 126)) (blank_text i)
blank_in_print = blank_plain

pub expected_in_print : (i : ℕ) → Each (λ (b : ℕ). (32 ≤ b) × (b ≤ 126)) (expected_text i)
expected_in_print = expected_plain

-- No line is empty, and the first byte is a small letter: no line is blank or a comment.
pub line_not_empty : (i n : ℕ) → 0 < length (line_text i n)
line_not_empty = some_bytes

pub letter_first : (i n : ℕ) → i < count → (97 ≤ get_or (line_text i n) 0 0) × (get_or (line_text i n) 0 0 ≤ 122)
letter_first = first_byte

-- No line begins a sheet.
pub no_sheet_line : (i n : ℕ) → i < count → line_text i n ≢ bytes_of "sheet"
no_sheet_line = is_no_sheet

pub no_titled_sheet_line : (i n : ℕ) → i < count → stands (bytes_of "sheet ") (line_text i n) ≡ false
no_titled_sheet_line = begins_no_title

-- One result of each call, and one later content of the buffer.
pub line_place_unique : (i n at : ℕ) (buffer : List ℕ) (r s : ℕ)
    → r ≡ place_within line_bytes (line_text i n) at buffer → s ≡ place_within line_bytes (line_text i n) at buffer → r ≡ s
line_place_unique i n at buffer = one_answer

pub line_buffer_unique : (i n at : ℕ) (buffer now later : List ℕ)
    → now ≡ buffer_within line_bytes (line_text i n) at buffer → later ≡ buffer_within line_bytes (line_text i n) at buffer → now ≡ later
line_buffer_unique i n at buffer = one_answer

pub blank_place_unique : (i at : ℕ) (buffer : List ℕ) (r s : ℕ)
    → r ≡ place_within line_bytes (blank_text i) at buffer → s ≡ place_within line_bytes (blank_text i) at buffer → r ≡ s
blank_place_unique i at buffer = one_answer

pub blank_buffer_unique : (i at : ℕ) (buffer now later : List ℕ)
    → now ≡ buffer_within line_bytes (blank_text i) at buffer → later ≡ buffer_within line_bytes (blank_text i) at buffer → now ≡ later
blank_buffer_unique i at buffer = one_answer

pub expected_place_unique : (i at : ℕ) (buffer : List ℕ) (r s : ℕ)
    → r ≡ place_within expected_bytes (expected_text i) at buffer → s ≡ place_within expected_bytes (expected_text i) at buffer → r ≡ s
expected_place_unique i at buffer = one_answer

pub expected_buffer_unique : (i at : ℕ) (buffer now later : List ℕ)
    → now ≡ buffer_within expected_bytes (expected_text i) at buffer → later ≡ buffer_within expected_bytes (expected_text i) at buffer → now ≡ later
expected_buffer_unique i at buffer = one_answer

pub entry_unique : (i : ℕ) (line : List ℕ) (r s : Result ℕ EntryFault) → r ≡ entry_of i line → s ≡ entry_of i line → r ≡ s
entry_unique i line = one_answer

pub row_named_unique : (line : List ℕ) (r s : Option ℕ) → r ≡ row_named line → s ≡ row_named line → r ≡ s
row_named_unique line = one_answer

pub begins_unique : (bytes text : List ℕ) (r s : Bool) → r ≡ stands text bytes → s ≡ stands text bytes → r ≡ s
begins_unique bytes text = one_answer

-- The rows of the definition, all of them: the lines of S, what is expected in each row, and the empty form.
pub starred_lines : in_each_row (λ i. line_text i (get_or figures_of_s i 0)) ≡ map bytes_of lines_of_s
starred_lines = lines_s

pub starred_expected : in_each_row expected_text ≡ map bytes_of expected_texts
starred_expected = expected_texts_lem

pub starred_form : in_each_row blank_text ≡ map bytes_of blank_lines
starred_form = blank_lines_lem

-- Half a knot, a level below 0, one off the record, and a word with a unit.
pub starred_tenths : line_text 17 5 ≡ bytes_of "along-current 0.5 kn"
starred_tenths = tenths_line

pub starred_below : line_text 26 489 ≡ bytes_of "level given -12 cm"
starred_below = below_line

pub starred_record : line_text 26 0 ≡ bytes_of "level record"
starred_record = record_line

pub starred_word : line_text 9 1 ≡ bytes_of "interval 0.33 yr"
starred_word = word_line

-- The definition's line that has no such figure.
pub starred_no_figure : entry_of 16 (bytes_of "cross-current 1 kn") ≡ (Err NoFigure)
starred_no_figure = no_tenths
