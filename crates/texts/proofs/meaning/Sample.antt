-- Case S typed: its text, and its bytes; and the message of a text with a fault, to the byte.
use Prim.Native.String.{String}
use mathlib.Core.Path.{◌≡◌, refl, ap, ◌∙◌}
use mathlib.Core.List.{List, [], ◌∷◌, ◌++◌, map, flatten, append-nil}
use Prim.Native.Nat.{ℕ}
use native.Mathlib.Omega.{arith}
use Rattle.laws.specs.Each.{◌&◌}
use Rattle.laws.specs.First.{first_from}
use Rattle.lines.specs.Decimals.{digits_within, digits, count_text}
use Rattle.sheet.specs.CaseS.{sheet_s, bytes_s}
use Rattle.sheet.specs.Fields.{fields, field_at, least, greatest, range_of, outside_at, pair_bad, standing_of}
use Rattle.sheet.specs.Sheets.{bed_figure, figures_of}
use Rattle.sheet.proofs.Promises.{starred}
use Rattle.typed.specs.Rows.{bytes_of, rows, row_at, values_of}
use Rattle.typed.specs.Lines.{token, tenths_text, hundredths_text, level_text, word_text, figure_text, behind, unit_text, name_text, front_text, row_text, line_text, span_text, lines_text, expected_text}
use Rattle.typed.specs.Reading.{stands, same, in_number, digit_on, digits_read, guessed, entry_on, entry_by, entry_of, below_zero, level_guess, word_stands, word_guess}
use Rattle.typed.proofs.meaning.Starred.{lines_of_s}
use Rattle.typed.proofs.meaning.Sample.{deadweight_expected}
use Rattle.texts.specs.Cutting.{lines_of, bare, blank, passed_over, begins_sheet, next_number}
use Rattle.texts.specs.Messages.{shown, quoted_text, stood_text, message_text}
use Rattle.texts.specs.Shown.{row_figure, sheet_text}
use Rattle.texts.specs.Steps.{stored, field_of, accepted_in, row_step, begin_step, step_of, line_step}
use Rattle.texts.specs.Texts.{turn_on, ended_at, all_in, all_of}
use Rattle.texts.specs.Typed.{messages_in, messages_of, sheets_of, Faultless, typed_bytes, row_lines, sheet_lines, Titled, lines_of_all, SheetFigures, Proper, text_of, OneLine}
use Rattle.texts.proofs.meaning.Again.{read_fine}
use Rattle.texts.proofs.meaning.Complete.{complete_text}
use Rattle.texts.proofs.meaning.Places.{its_bytes, bytes_of_text}
use Rattle.texts.proofs.meaning.Writing.{printed_line, written_typed}

-- the text of S
abbrev pub text_of_s : String
text_of_s = "sheet\ndeadweight 40000 t\ndraft 1000 cm\nlength 20000 cm\nbeam 3000 cm\nspeed 8 kn\nnatural-bed 500 cm\nsoil mud\nwave-allowance 30 cm\nsilting 0 per-mille/yr\ninterval 1.00 yr\nlanes one\nchannel-length 20000 m\nships 24.00 /day\nwater open\nhandling good\ncross-wind 20 kn\ncross-current 1.0 kn\nalong-current 1.0 kn\nwave-height 150 cm\naids good\nbottom soft\ncargo low-danger\nleft-bank sloping\nright-bank sloping\nturn 0 deg\nradius 0 m\nlevel given 0 cm\nside-slope 0 m/m\n"

-- its lines
lines_of_s_lem : sheet_lines (figures_of sheet_s) ≡ map bytes_of lines_of_s
unfolding sheet_lines row_lines row_figure bed_figure figures_of line_text row_text front_text name_text figure_text unit_text behind token count_text digits digits_within tenths_text hundredths_text level_text word_text row_at rows flatten
lines_of_s_lem = refl

text_of_s_lem : text_of (bytes_of "sheet" ∷ map bytes_of lines_of_s) ≡ bytes_of text_of_s
unfolding text_of
text_of_s_lem = refl

-- as a typed sheet
typed_s : Titled
typed_s = record { title = bytes_of "sheet"; figures = figures_of sheet_s }

fine_s : SheetFigures (figures_of sheet_s)
fine_s = read_fine bytes_s sheet_s starred.0

proper_s : Proper typed_s
unfolding typed_s begins_sheet stands
proper_s = record { begins = refl; figures_fine = fine_s }

one_line_s : OneLine typed_s.title
unfolding typed_s
one_line_s = printed_line (bytes_of "sheet") (omega arith & omega arith & omega arith & omega arith & omega arith & tt)

written_s : text_of (lines_of_all (typed_s ∷ [])) ≡ bytes_of text_of_s
unfolding lines_of_all typed_s
written_s = rw (append-nil (sheet_lines (figures_of sheet_s)), lines_of_s_lem) text_of_s_lem

pub typed_s_lem : Faultless (bytes_of text_of_s) × (sheets_of (all_of (bytes_of text_of_s)) ≡ figures_of sheet_s ∷ [])
unfolding typed_s
typed_s_lem = rw (← written_s) (complete_text _ (typed_s ∷ []) (written_typed (typed_s ∷ []) (proper_s, tt) (one_line_s, tt)))

pub bytes_s_lem : typed_bytes (bytes_of text_of_s) ≡ bytes_s
unfolding flatten
bytes_s_lem =
    bytes_of_text (bytes_of text_of_s) typed_s_lem.0
    ∙ ap (λ (s : List (List ℕ)). flatten (map sheet_text s)) typed_s_lem.1
    ∙ append-nil (sheet_text (figures_of sheet_s))
    ∙ its_bytes (figures_of sheet_s) fine_s
    ∙ starred.1

-- a text of two lines, the second out of its range: what was expected there is put in last, as its digits are found one at a time
message_8_parts : messages_of (bytes_of "sheet\ndeadweight 0 t\n")
    ≡ ((bytes_of "line 2: T8 outside its range: \"deadweight 0 t\"; expected: " ++ expected_text 0) ++ bytes_of "\n") ∷ []
unfolding messages_of messages_in all_of all_in turn_on ended_at lines_of bare line_step passed_over blank step_of begins_sheet begin_step row_step accepted_in stored field_of next_number entry_of entry_by entry_on guessed digits_read in_number digit_on stands same front_text name_text figure_text unit_text behind token count_text digits digits_within row_text line_text row_at rows flatten message_text stood_text quoted_text shown least greatest field_at fields standing_of outside_at pair_bad
message_8_parts = refl

pub message_8 : messages_of (bytes_of "sheet\ndeadweight 0 t\n")
    ≡ bytes_of "line 2: T8 outside its range: \"deadweight 0 t\"; expected: deadweight 1 t .. deadweight 600000 t\n" ∷ []
message_8 =
    message_8_parts
    ∙ ap (λ (expected : List ℕ). ((bytes_of "line 2: T8 outside its range: \"deadweight 0 t\"; expected: " ++ expected) ++ bytes_of "\n") ∷ []) deadweight_expected

-- the two of the definition: S up to a figure that is none, and without its last row, behind a comment
abbrev pub text_no_figure : String
text_no_figure = "sheet\ndeadweight 40000 t\ndraft 1000 cm\nlength 20000 cm\nbeam 3000 cm\nspeed 8 kn\nnatural-bed 500 cm\nsoil mud\nwave-allowance 30 cm\nsilting 0 per-mille/yr\ninterval 1.00 yr\nlanes one\nchannel-length 20000 m\nships 24.00 /day\nwater open\nhandling good\ncross-wind 20 kn\ncross-current 1 kn\n"

abbrev pub text_missing : String
text_missing = "# S without its last row\nsheet\ndeadweight 40000 t\ndraft 1000 cm\nlength 20000 cm\nbeam 3000 cm\nspeed 8 kn\nnatural-bed 500 cm\nsoil mud\nwave-allowance 30 cm\nsilting 0 per-mille/yr\ninterval 1.00 yr\nlanes one\nchannel-length 20000 m\nships 24.00 /day\nwater open\nhandling good\ncross-wind 20 kn\ncross-current 1.0 kn\nalong-current 1.0 kn\nwave-height 150 cm\naids good\nbottom soft\ncargo low-danger\nleft-bank sloping\nright-bank sloping\nturn 0 deg\nradius 0 m\nlevel given 0 cm\n"

pub message_6 : messages_of (bytes_of text_no_figure)
    ≡ bytes_of "line 18: T6 no such figure: \"cross-current 1 kn\"; expected: cross-current 0.0 kn .. cross-current 6.0 kn\n" ∷ []
unfolding messages_of messages_in all_of all_in turn_on ended_at lines_of bare line_step passed_over blank step_of begins_sheet begin_step row_step accepted_in stored field_of next_number entry_of entry_by entry_on guessed digits_read in_number digit_on word_guess word_stands first_from stands same front_text name_text figure_text unit_text behind token count_text digits digits_within tenths_text hundredths_text word_text row_text line_text row_at rows flatten message_text stood_text quoted_text shown expected_text lines_text span_text values_of range_of least greatest field_at fields standing_of outside_at pair_bad
message_6 = refl

pub message_2 : messages_of (bytes_of text_missing)
    ≡ bytes_of "line 30: T2 a row is missing: the text ends; expected: side-slope 0 m/m .. side-slope 30 m/m\n" ∷ []
unfolding messages_of messages_in all_of all_in turn_on ended_at lines_of bare line_step passed_over blank step_of begins_sheet begin_step row_step accepted_in stored field_of next_number entry_of entry_by entry_on guessed digits_read in_number digit_on word_guess word_stands level_guess below_zero first_from stands same front_text name_text figure_text unit_text behind token count_text digits digits_within tenths_text hundredths_text level_text word_text row_text line_text row_at rows flatten message_text stood_text quoted_text shown expected_text lines_text span_text values_of range_of least greatest field_at fields standing_of outside_at pair_bad
message_2 = refl
