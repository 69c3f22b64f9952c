-- The text of a row: its name, its figure and its unit (section 14.2), and what is expected in it (14.4).
use Rattle.std.specs.Prelude.{ℕ, zero, suc, ◌+◌, ◌-◌, ◌*◌, ◌/◌, ◌%◌, List, [], ◌∷◌, ◌++◌, get_or, take, drop}
use Rattle.laws.specs.Choice.{ifᵇ◌then◌else◌, ◌<ᵇ◌, ◌=ᵇ◌}
use Rattle.lines.specs.Decimals.{byte_of, minus, count_text}
use Rattle.lines.specs.Lines.{space}
use Rattle.sheet.specs.declared.Range.{Range}
use Rattle.typed.specs.Rows.{bytes_of, row_at, values_of}
use Rattle.typed.specs.declared.Kind.{Kind}
use Rattle.typed.specs.declared.Kind.TheVariants.{Whole, Tenths, Hundredths, Words, Level}
use Rattle.typed.specs.declared.table.Row.{Row}

-- the bytes that a line is given, and what is expected of a row
abbrev pub line_bytes : ℕ
line_bytes = 80

abbrev pub expected_bytes : ℕ
expected_bytes = 512

-- what stands in a place of the table, up to its first space
unfoldable pub token : List ℕ → List ℕ
token [] = []
token (b ∷ slot) = ifᵇ b =ᵇ space then [] else b ∷ token slot

abbrev pub point : ℕ
point = 46

-- tenths have a point and one digit behind it, hundredths two
unfoldable pub tenths_text : ℕ → List ℕ
tenths_text n = (count_text (n / 10) ++ point ∷ []) ++ byte_of (n % 10) ∷ []

unfoldable pub hundredths_text : ℕ → List ℕ
hundredths_text n = ((count_text (n / 100) ++ point ∷ []) ++ byte_of (n / 10 % 10) ∷ []) ++ byte_of (n % 10) ∷ []

-- the figure of the level 0: those of the record and of the 500 cm below it stand before
abbrev pub level_zero : ℕ
level_zero = 501

-- a level off the record, or given with its sign
unfoldable pub level_text : ℕ → List ℕ
level_text n =
    ifᵇ n =ᵇ 0
    then bytes_of "record"
    else bytes_of "given " ++ (ifᵇ n <ᵇ level_zero then minus ∷ count_text (level_zero - n) else count_text (n - level_zero))

-- the word of a code
unfoldable pub word_text : List ℕ → ℕ → List ℕ
word_text words n = token (take 16 (drop (16 * n) words))

-- a figure as its row has it
abbrev pub figure_by : Kind → List ℕ → ℕ → List ℕ
figure_by Whole words n = count_text n
figure_by Tenths words n = tenths_text n
figure_by Hundredths words n = hundredths_text n
figure_by Words words n = word_text words n
figure_by Level words n = level_text n

unfoldable pub figure_text : Row → ℕ → List ℕ
figure_text r n = figure_by r.kind r.words n

-- a space and a unit, nothing where there is none
unfoldable pub behind : List ℕ → List ℕ
behind unit = ifᵇ get_or unit 0 0 =ᵇ space then [] else space ∷ token unit

-- the unit behind a figure; a level off the record has none
abbrev pub unit_by : Kind → List ℕ → ℕ → List ℕ
unit_by Whole unit n = behind unit
unit_by Tenths unit n = behind unit
unit_by Hundredths unit n = behind unit
unit_by Words unit n = behind unit
unit_by Level unit n = ifᵇ n =ᵇ 0 then [] else behind unit

unfoldable pub unit_text : Row → ℕ → List ℕ
unit_text r n = unit_by r.kind r.unit n

-- the name and a space; the figure behind them; the whole line
unfoldable pub name_text : Row → List ℕ
name_text r = token r.name ++ space ∷ []

unfoldable pub front_text : Row → ℕ → List ℕ
front_text r n = name_text r ++ figure_text r n

unfoldable pub row_text : Row → ℕ → List ℕ
row_text r n = front_text r n ++ unit_text r n

-- the line of a figure in the row after the first i
unfoldable pub line_text : ℕ → ℕ → List ℕ
line_text i n = row_text (row_at i) n

-- the line with `_` for its figure
unfoldable pub blank_row : Row → List ℕ
blank_row r = (name_text r ++ 95 ∷ []) ++ unit_text r 0

unfoldable pub blank_text : ℕ → List ℕ
blank_text i = blank_row (row_at i)

-- the lines of at most so many words from one on, each behind ` | `
unfoldable pub words_from : Row → ℕ → ℕ → List ℕ
words_from r j zero = []
words_from r j (suc most) =
    ifᵇ get_or r.words (16 * j) 0 =ᵇ space then [] else (bytes_of " | " ++ row_text r j) ++ words_from r (j + 1) most

-- the lines of two figures
unfoldable pub span_text : Row → ℕ → ℕ → List ℕ
span_text r least greatest = (row_text r least ++ bytes_of " .. ") ++ row_text r greatest

-- what is expected of a row whose figure has these values
abbrev pub lines_by : Kind → Row → Range → List ℕ
lines_by Whole r values = span_text r values.least values.greatest
lines_by Tenths r values = span_text r values.least values.greatest
lines_by Hundredths r values = span_text r values.least values.greatest
lines_by Words r values = row_text r 0 ++ words_from r 1 5
lines_by Level r values = (row_text r 0 ++ bytes_of " | ") ++ span_text r 1 values.greatest

unfoldable pub lines_text : Row → Range → List ℕ
lines_text r values = lines_by r.kind r values

unfoldable pub expected_text : ℕ → List ℕ
expected_text i = lines_text (row_at i) (values_of i)
