-- Lines with blanks, and the figures that fill them (section 15.1).
use Rattle.std.specs.Prelude.{ℕ, List, [], ℤ, pos, negsuc, Option, Some, None}
use Prim.Native.String.{String}
use Rattle.blanks.specs.Blanks.{filled}
use Rattle.blanks.specs.declared.Figure.{Figure}
use Rattle.blanks.specs.declared.Figure.TheVariants.{Count, Signed, Letter, Nothing}
use Rattle.datum.specs.Datum.{level_of}
use Rattle.datum.specs.declared.Level.{Level}
use Rattle.depth.specs.declared.Column.{Column}
use Rattle.depth.specs.declared.Column.TheVariants.{A, B, C}
use Rattle.typed.specs.Rows.{bytes_of}

-- a text with its blanks filled
abbrev pub with : String → List Figure → List ℕ
with text figures = filled [] (bytes_of text) figures

-- the same with words from a table
abbrev pub worded : List ℕ → String → List Figure → List ℕ
worded words text figures = filled words (bytes_of text) figures

-- a level above chart datum
abbrev pub level_figure : Level → Figure
level_figure level = Signed (level_of level)

-- the letter of a column
abbrev pub column_letter : Column → Figure
column_letter A = Letter 65
column_letter B = Letter 66
column_letter C = Letter 67

-- a count, where there is one
abbrev pub count_or_none : Option ℕ → Figure
count_or_none (Some count) = Count count
count_or_none None = Nothing

-- a figure of an answer without its sign, which none has
abbrev pub unsigned_of : ℤ → ℕ
unsigned_of (pos n) = n
unsigned_of (negsuc n) = 0
