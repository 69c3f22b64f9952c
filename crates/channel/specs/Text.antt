-- The text that is printed (section 10): a line for the record, one for each sheet, and one for the route; in the form of both engines (section 16) with the plain
-- engine's figures.
use Rattle.std.specs.Prelude.{ℕ, zero, suc, ◌+◌, length, take, drop, Result}
use mathlib.Core.List.{List, [], ◌∷◌, ◌++◌, map, flatten}
use Rattle.laws.specs.Choice.{ifᵇ◌then◌else◌, ◌=ᵇ◌}
use Rattle.laws.specs.Rounding.{up}
use Rattle.gauge.specs.Table.{empty_table}
use Rattle.gauge.specs.Designing.{design_level}
use Rattle.record.specs.Blocks.{no_tally, table_after_block, tally_after_block, tally_at_end}
use Rattle.record.specs.Counting.{one_more}
use Rattle.record.specs.declared.Counts.{Counts}
use Rattle.design.specs.Design.{design_at}
use Rattle.design.specs.Numbers.{code_of, numbers_of}
use Rattle.lines.specs.Lines.{levels_line, sheet_line, both_line, route_line_in}
use Rattle.lines.specs.declared.Form.{Form}
use Rattle.lines.specs.declared.Form.TheVariants.{Alone, Both}
use Rattle.both.specs.Both.{came_to, both_of}
use Rattle.both.specs.declared.Verdict.{Verdict}
use Rattle.both.specs.declared.Verdict.TheVariants.{NotCome, Agreed, Differed}
use Rattle.channel.specs.Route.{no_sheets, with_sheet, ships_of}
use Rattle.channel.specs.declared.route.Route.{Route}
use Rattle.design.specs.declared.Reason.{Reason}
use Rattle.datum.specs.declared.Level.{Level}
use Rattle.design.specs.declared.Figures.{Figures}
use Rattle.gauge.specs.declared.LevelFault.{LevelFault}

-- the first n sheets of the input, 28 bytes each
unfoldable pub first_sheets : ℕ → List ℕ → List (List ℕ)
first_sheets zero input = []
first_sheets (suc n) input = take 28 input ∷ first_sheets n (drop 28 input)

-- all of them; where the input ends within one, that is a short last sheet
unfoldable pub sheets_of : List ℕ → List (List ℕ)
sheets_of input = first_sheets (up (length input) 28) input

-- the record: the table that starts from zeros, its level, and the counts of its readings
abbrev pub record_table : List ℕ → List ℕ
record_table file = table_after_block empty_table no_tally file

abbrev pub record_level : List ℕ → Result Level LevelFault
record_level file = design_level (record_table file)

abbrev pub record_counts : List ℕ → Counts
record_counts file = (tally_at_end (tally_after_block empty_table no_tally file)).counts

module _ (level : Result Level LevelFault) where
  -- the route after sheets, each designed at that level
  unfoldable pub route_after : Route → List (List ℕ) → Route
  route_after route [] = route
  route_after route (sheet ∷ sheets) = route_after (with_sheet route (design_at sheet level)) sheets

  -- the designs of sheets, and the ship classes of those that are answered
  abbrev pub designs_of : List (List ℕ) → List (Result Figures Reason)
  designs_of sheets = map (λ (sheet : List ℕ). design_at sheet level) sheets

  abbrev pub ships_of_all : List (List ℕ) → List ℕ
  ships_of_all sheets = flatten (map ships_of (designs_of sheets))

  -- how many have code 0
  unfoldable pub how_many_answered : List (List ℕ) → ℕ
  how_many_answered [] = 0
  how_many_answered (sheet ∷ sheets) = (ifᵇ code_of (design_at sheet level) =ᵇ 0 then 1 else 0) + how_many_answered sheets

  -- how many came to their depth
  unfoldable pub how_many_came : List (List ℕ) → ℕ
  how_many_came [] = 0
  how_many_came (sheet ∷ sheets) = (ifᵇ came_to (design_at sheet level) then 1 else 0) + how_many_came sheets

-- the line of a sheet: its index and its numbers, and by both engines the plain engine's behind them
abbrev pub sheet_line_in : Form → ℕ → List ℕ → Result Level LevelFault → List ℕ
sheet_line_in Alone index sheet level = sheet_line index (numbers_of (design_at sheet level))
sheet_line_in Both index sheet level = both_line index (numbers_of (design_at sheet level)) (both_of sheet level).plain

-- whether the two engines agree on a sheet; the worksheet alone comes to no verdict
abbrev pub verdict_in : Form → List ℕ → Result Level LevelFault → Verdict
verdict_in Alone sheet level = NotCome
verdict_in Both sheet level = (both_of sheet level).verdict

-- on how many sheets they agreed, with one more
abbrev pub with_verdict : ℕ → Verdict → ℕ
with_verdict agreed Agreed = one_more agreed
with_verdict agreed NotCome = agreed
with_verdict agreed Differed = agreed

module _ (form : Form) (level : Result Level LevelFault) where
  -- the lines of sheets, in their order, each with its index
  unfoldable pub sheet_lines : Route → List (List ℕ) → List (List ℕ)
  sheet_lines route [] = []
  sheet_lines route (sheet ∷ sheets) =
      sheet_line_in form (with_sheet route (design_at sheet level)).sheets sheet level ∷ sheet_lines (with_sheet route (design_at sheet level)) sheets

  -- on how many of them the engines agreed, behind those before
  unfoldable pub agreed_after : ℕ → List (List ℕ) → ℕ
  agreed_after agreed [] = agreed
  agreed_after agreed (sheet ∷ sheets) = agreed_after (with_verdict agreed (verdict_in form sheet level)) sheets

-- 1 where they agree
abbrev pub one_if_agreed : Verdict → ℕ
one_if_agreed Agreed = 1
one_if_agreed NotCome = 0
one_if_agreed Differed = 0

-- on how many sheets they agree
unfoldable pub how_many_agreed : Result Level LevelFault → List (List ℕ) → ℕ
how_many_agreed level [] = 0
how_many_agreed level (sheet ∷ sheets) = one_if_agreed (both_of sheet level).verdict + how_many_agreed level sheets

-- L with the counts, and R with the route, and by both engines on how many sheets they agreed
abbrev pub levels_line_of : Counts → List ℕ
levels_line_of counts = levels_line counts.added counts.missing counts.refused

abbrev pub route_line_of : Form → Route → ℕ → List ℕ
route_line_of form route agreed = route_line_in form route.sheets route.answered route.class agreed

-- the lines, and the text
abbrev pub lines_of : Form → List ℕ → List ℕ → List (List ℕ)
lines_of form file input =
    levels_line_of (record_counts file)
    ∷ (sheet_lines form (record_level file) no_sheets (sheets_of input)
    ++ route_line_of form (route_after (record_level file) no_sheets (sheets_of input)) (agreed_after form (record_level file) 0 (sheets_of input)) ∷ [])

unfoldable pub printed : Form → List ℕ → List ℕ → List ℕ
printed form file input = flatten (lines_of form file input)
