-- The worksheets of an input's sheets and the pages of their route (section 15): what the program's own steps come to, and the whole text.
use Rattle.std.specs.Prelude.{◌≡◌, ℕ, ◌-◌, take, drop, replicate, Option, Some, None, Result}
use mathlib.Core.List.{List, [], ◌∷◌, ◌++◌, flatten}
use Rattle.design.specs.Design.{design_at}
use Rattle.gauge.specs.Designing.{level_steps}
use Rattle.gauge.specs.declared.LevelSteps.{LevelSteps}
use Rattle.lines.specs.Lines.{buffer_within}
use Rattle.record.specs.declared.Counts.{Counts}
use Rattle.texts.specs.Names.{name_after}
use Rattle.texts.specs.Shown.{sheet_bytes, sheet_text}
use Rattle.texts.specs.Texts.{beginning, all_of}
use Rattle.texts.specs.Typed.{Faultless}
use Rattle.texts.specs.declared.Cursor.{Cursor}
use Rattle.texts.specs.declared.Found.{Found}
use Rattle.worksheet.specs.Framing.{page_bytes}
use Rattle.worksheet.specs.Pages.{page_text}
use Rattle.worksheet.specs.Routes.{none_yet, with_stretch, route_head, stretch_text, foot_text}
use Rattle.worksheet.specs.declared.Greatest.{Greatest}
use Rattle.channel.specs.Input.{ToItsEnd}
use Rattle.channel.specs.Output.{Lines, with_line, written}
use Rattle.channel.specs.Printing.{file_block}
use Rattle.channel.specs.Route.{no_sheets, with_sheet}
use Rattle.channel.specs.Text.{sheets_of, record_table, record_counts}
use Rattle.channel.specs.declared.route.Route.{Route}
use Rattle.channel.specs.declared.worksheets.Pass.{Pass}
use Rattle.channel.specs.declared.worksheets.Pass.TheVariants.{Pages, Stretches}
use Rattle.channel.specs.declared.worksheets.Source.{Source}
use Rattle.channel.specs.declared.worksheets.Source.TheVariants.{Bytes, Typed}
use Rattle.channel.specs.declared.worksheets.State.{State}
use Rattle.design.specs.declared.Reason.{Reason}
use Rattle.design.specs.declared.Figures.{Figures}

-- a sheet's bytes with its name
pub record Named : Type 0 where
  pub name : List ℕ
  pub bytes : List ℕ

-- bytes have no names
unfoldable pub unnamed : List (List ℕ) → List Named
unnamed [] = []
unnamed (sheet ∷ sheets) = record { name = []; bytes = sheet } ∷ unnamed sheets

-- the name of the first sheet of a text from a place on
abbrev pub name_of : List ℕ → ℕ → List ℕ
name_of text from = take ((name_after text from).end - (name_after text from).start) (drop (name_after text from).start text)

-- the 28 bytes of a sheet's figures
unfoldable pub bytes_for : List ℕ → List ℕ
bytes_for figures = buffer_within sheet_bytes (sheet_text figures) 0 (replicate 28 0)

-- the sheets that are found in a text from a cursor on, each named behind the one before it
unfoldable pub named_from : List ℕ → Cursor → List Found → List Named
named_from text cursor [] = []
named_from text cursor (found ∷ all) =
    record { name = name_of text cursor.at; bytes = bytes_for found.cursor.figures } ∷ named_from text found.cursor all

unfoldable pub named_of : List ℕ → List Named
named_of text = named_from text beginning (all_of text)

-- the sheets of an input
abbrev pub items_of : Source → List ℕ → List Named
items_of Bytes input = unnamed (sheets_of input)
items_of Typed input = named_of input

-- the page of a sheet, or its line of the route
abbrev pub text_by : Pass → LevelSteps → ℕ → List ℕ → List ℕ → Result Figures Reason → List ℕ
text_by Pages steps index name sheet answer = page_text index name sheet steps
text_by Stretches steps index name sheet answer = stretch_text index answer

-- the route so far, its greatest figures, and the texts
pub record Progress : Type 0 where
  pub route : Route
  pub greatest : Greatest
  pub lines : Lines

abbrev pub progress : State → List ℕ → Progress
progress state buffer = record { route = state.route; greatest = state.greatest; lines = record { at = state.out.at; buffer = buffer } }

-- before the first sheet
abbrev pub at_first : Lines → Progress
at_first l = record { route = no_sheets; greatest = none_yet; lines = l }

module _ (pass : Pass) (steps : LevelSteps) where
  -- one sheet more: it joins the route, and its text stands behind those before it
  unfoldable pub one_put : List ℕ → List ℕ → Progress → Progress
  one_put name sheet p =
      let answer = design_at sheet steps.read in
      let route = with_sheet p.route answer in
      record {
        route = route;
        greatest = with_stretch p.greatest answer;
        lines = with_line page_bytes (text_by pass steps route.sheets name sheet answer) p.lines;
      }

  -- all sheets
  unfoldable pub all_put : List Named → Progress → Progress
  all_put [] p = p
  all_put (item ∷ items) p = all_put items (one_put item.name item.bytes p)

  -- their texts, in their order
  unfoldable pub texts_of : Route → List Named → List (List ℕ)
  texts_of route [] = []
  texts_of route (item ∷ items) =
      let answer = design_at item.bytes steps.read in
      let next = with_sheet route answer in
      text_by pass steps next.sheets item.name item.bytes answer ∷ texts_of next items

-- the route and its greatest figures after sheets
unfoldable pub route_of : LevelSteps → Route → List Named → Route
route_of steps route [] = route
route_of steps route (item ∷ items) = route_of steps (with_sheet route (design_at item.bytes steps.read)) items

unfoldable pub greatest_of : LevelSteps → Greatest → List Named → Greatest
greatest_of steps greatest [] = greatest
greatest_of steps greatest (item ∷ items) = greatest_of steps (with_stretch greatest (design_at item.bytes steps.read)) items

-- the head of the route, and its end
unfoldable pub head_put : Lines → Lines
head_put l = with_line page_bytes (route_head 1) l

abbrev pub foot_of : Counts → Route → Greatest → List ℕ
foot_of counts route greatest =
    foot_text (record { sheets = route.sheets; answered = route.answered; class = route.class }) greatest
    (record { added = counts.added; missing = counts.missing; refused = counts.refused })

unfoldable pub foot_put : Counts → Progress → Lines
foot_put counts p = with_line page_bytes (foot_of counts p.route p.greatest) p.lines

-- ---- the whole text

-- the pages of the sheets, then the route: its head, its stretches and its end
unfoldable pub worksheet_lines : LevelSteps → Counts → List Named → List (List ℕ)
worksheet_lines steps counts items =
    texts_of Pages steps no_sheets items
    ++ (route_head 1 ∷ (texts_of Stretches steps no_sheets items ++ foot_of counts (route_of steps no_sheets items) (greatest_of steps none_yet items) ∷ []))

unfoldable pub worksheets_text : LevelSteps → Counts → List Named → List ℕ
worksheets_text steps counts items = flatten (worksheet_lines steps counts items)

-- what was written while they were put, and the rest that stands in the buffer, are together the text
abbrev pub WorksheetsOut : Source → LevelSteps → Counts → List ℕ → List ℕ → Option ℕ → List ℕ → Type 0
WorksheetsOut source steps counts input buffer (Some rest) later =
    written page_bytes (worksheet_lines steps counts (items_of source input)) (record { at = 0; buffer = buffer }) ++ take rest later
    ≡ worksheets_text steps counts (items_of source input)
WorksheetsOut source steps counts input buffer None later = Unit {0}

-- of a typed text only where it has no fault
abbrev pub Accepted : Source → List ℕ → Type 0
Accepted Bytes input = Unit {0}
Accepted Typed input = Faultless input

abbrev pub FaultlessOut : Source → LevelSteps → Counts → List ℕ → List ℕ → Option ℕ → List ℕ → Type 0
FaultlessOut source steps counts input buffer (Some rest) later =
    Accepted source input × WorksheetsOut source steps counts input buffer (Some rest) later
FaultlessOut source steps counts input buffer None later = Unit {0}

-- over a record, whatever blocks it came in
abbrev pub OverRecord : Source → List ℕ → List ℕ → Option ℕ → List ℕ → Type 0
OverRecord source input buffer (Some rest) later =
    ToItsEnd file_block (λ (file : List ℕ). FaultlessOut source (level_steps (record_table file)) (record_counts file) input buffer (Some rest) later)
OverRecord source input buffer None later = Unit {0}
