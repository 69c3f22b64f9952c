-- The figures of a sheet in two columns, as they are typed (section 15.4).
use Rattle.std.specs.Prelude.{ℕ, zero, suc, ◌+◌, ◌-◌, List, [], ◌++◌, length, replicate}
use Rattle.texts.specs.Shown.{row_figure}
use Rattle.typed.specs.Lines.{line_text}
use Rattle.typed.specs.Rows.{bytes_of}

-- the line of the row after the first i
unfoldable pub row_text : List ℕ → ℕ → List ℕ
row_text figures i = line_text i (row_figure figures i)

-- the left column: the line, and spaces up to 36 bytes
unfoldable pub left_text : List ℕ → List ℕ
left_text line = line ++ replicate (36 - length line) 32

-- a row, and the fourteenth behind it
unfoldable pub pair_text : List ℕ → ℕ → List ℕ
pair_text figures i = (left_text (row_text figures i) ++ row_text figures (i + 14)) ++ bytes_of "\n"

unfoldable pub pairs_text : List ℕ → ℕ → ℕ → List ℕ
pairs_text figures i zero = []
pairs_text figures i (suc most) = pair_text figures i ++ pairs_text figures (i + 1) most

-- all of them, and an empty line
unfoldable pub rows_part : List ℕ → List ℕ
rows_part figures = pairs_text figures 0 14 ++ bytes_of "\n"
