-- Bytes shown as text, the bytes of figures, and the empty form (sections 14.5 and 14.6).
use Rattle.std.specs.Prelude.{ℕ, zero, suc, ◌+◌, ◌%◌, List, [], ◌∷◌, ◌++◌, get_or, Result, Ok, Err}
use Rattle.laws.specs.Choice.{ifᵇ◌then◌else◌, ◌<ᵇ◌, ◌=ᵇ◌}
use Rattle.lines.specs.Decimals.{count_text}
use Rattle.sheet.specs.Fields.{first_bad}
use Rattle.sheet.specs.Packing.{size, bytes_of as packed_of}
use Rattle.sheet.specs.Sheets.{figures_of, read_of}
use Rattle.sheet.specs.Refusals.{read_fault_number, read_fault_field}
use Rattle.sheet.specs.declared.ReadFault.{ReadFault}
use Rattle.typed.specs.Rows.{bytes_of, count, level_row}
use Rattle.typed.specs.Lines.{line_text, blank_text, expected_text}
use Rattle.texts.specs.Cutting.{newline, space}
use Rattle.sheet.specs.declared.Sheet.{Sheet}

-- the bytes that a shown sheet is given, the form, and the bytes of a sheet
abbrev pub shown_bytes : ℕ
shown_bytes = 4096

abbrev pub form_bytes : ℕ
form_bytes = 20000

abbrev pub sheet_bytes : ℕ
sheet_bytes = size

-- the figure of a row; the level's is 0 off the record, or one more than its field 28, which is of 11 bits
unfoldable pub row_figure : List ℕ → ℕ → ℕ
row_figure figures i =
    ifᵇ i <ᵇ level_row
    then get_or figures i 0
    else
    (ifᵇ i =ᵇ level_row then (ifᵇ get_or figures 26 0 =ᵇ 0 then 0 else get_or figures 27 0 % 65536 + 1) else get_or figures 28 0)

-- the line of a row, with its newline
unfoldable pub row_line : ℕ → ℕ → List ℕ
row_line i n = line_text i n ++ newline ∷ []

-- at most so many rows from one on
unfoldable pub rows_text : List ℕ → ℕ → ℕ → List ℕ
rows_text figures i zero = []
rows_text figures i (suc most) = row_line i (row_figure figures i) ++ rows_text figures (i + 1) most

-- bytes that are no sheet
unfoldable pub refused_text : ReadFault → List ℕ
refused_text fault =
    (((bytes_of "refused " ++ count_text (read_fault_number fault)) ++ space ∷ []) ++ count_text (read_fault_field fault)) ++ newline ∷ []

-- what bytes are read as
abbrev pub read_text : Result Sheet ReadFault → List ℕ
read_text (Ok s) = rows_text (figures_of s) 0 count
read_text (Err fault) = refused_text fault

-- bytes as the sheet of an index
unfoldable pub shown_text : ℕ → List ℕ → List ℕ
shown_text index bytes = ((bytes_of "sheet " ++ count_text index) ++ newline ∷ []) ++ read_text (read_of bytes)

-- the bytes of a sheet's figures, none where they are no sheet's
unfoldable pub sheet_text : List ℕ → List ℕ
sheet_text figures = ifᵇ first_bad figures =ᵇ 0 then packed_of figures else []

-- a row of the form: what is expected, and the line with a blank
unfoldable pub form_row : ℕ → List ℕ
form_row i = (((bytes_of "# " ++ expected_text i) ++ newline ∷ []) ++ blank_text i) ++ newline ∷ []

unfoldable pub form_rows : ℕ → ℕ → List ℕ
form_rows i zero = []
form_rows i (suc most) = form_row i ++ form_rows (i + 1) most

unfoldable pub form_text : List ℕ
form_text =
    bytes_of "# Put a figure or a word in the place of each _; the line above says which. A name may stand behind sheet.\nsheet\n"
    ++ form_rows 0 count
