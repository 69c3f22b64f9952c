-- The sample's text: the record's counts and the route are computed, by the numbers of S's design.
use Rattle.std.specs.Prelude.{Result, Ok, Err}
use mathlib.Core.Path.{◌≡◌, refl, sym, ap, ap₂, ◌∙◌}
use mathlib.Core.List.{List, [], ◌∷◌, ◌++◌, append-nil, flatten}
use Prim.Native.Nat.{ℕ}
use lib.IntN.{ℤ, pos, nat_abs}
use native.Mathlib.Omega.{arith}
use lib.ListN.{length, drop, get_or, length-drop}
use lib.Seq.{take_all}
use Rattle.laws.proofs.Never.{never}
use Rattle.sheet.specs.CaseS.{sheet_s}
use Rattle.sheet.specs.Sheets.{figures_of}
use Rattle.sheet.proofs.sheets.OneWriting.{bytes_length}
use Rattle.class.specs.Classes.{with_ship}
use Rattle.record.specs.Bytes.{readings_of, odd_byte}
use Rattle.record.specs.Counting.{additions}
use Rattle.record.specs.Blocks.{tally_after_block}
use Rattle.record.specs.declared.Counts.{Counts}
use Rattle.design.specs.Design.{design_at, design_of}
use Rattle.design.specs.Numbers.{numbers_of}
use Rattle.design.specs.Starred.{writing}
use Rattle.design.proofs.Promises.{table_gives_level}
use Rattle.lines.specs.Lines.{route_line, sheet_line}
use Rattle.lines.specs.Starred.{numbers_of_s, line_of_s}
use Rattle.lines.specs.declared.Form.TheVariants.{Alone}
use Rattle.lines.proofs.Promises.{starred_levels, starred_numbers, starred_sheet, starred_route}
use Rattle.channel.specs.Route.{no_sheets, with_sheet}
use Rattle.channel.specs.Text.{sheets_of, record_counts, record_table, record_level, route_after, sheet_lines, agreed_after, levels_line_of, route_line_of, printed}
use Rattle.channel.specs.Starred.{text_of_s}
use Rattle.channel.specs.declared.route.Route.{Route}
use Rattle.channel.proofs.Cuts.{next_sheet, no_sheet}
use Rattle.design.specs.declared.Reason.{Reason}
use Rattle.design.specs.declared.Figures.{Figures}

-- the route with an answer that has code 0 and ship class 0
routed : (answer : Result Figures Reason) → numbers_of answer ≡ numbers_of_s → with_sheet no_sheets answer ≡ record { sheets = 1; answered = 1; class = 0 }
unfolding numbers_of with_ship
routed (Ok f) e =
    let ship : f.classes.ship ≡ 0 = ap (λ (numbers : List ℤ). nat_abs (get_or numbers 10 (pos 0))) e in
    rw ship
routed (Err r) e = never (ap (λ (numbers : List ℤ). nat_abs (get_or numbers 3 (pos 0))) e)

abbrev bytes_s_lem : List ℕ
bytes_s_lem = writing sheet_s

one_sheet : sheets_of bytes_s_lem ≡ bytes_s_lem ∷ []
one_sheet =
    let long : length bytes_s_lem ≡ 28 = bytes_length (figures_of sheet_s) in
    next_sheet bytes_s_lem (omega arith)
    ∙ ap₂ ◌∷◌ (take_all 28 bytes_s_lem (omega arith)) (no_sheet (drop 28 bytes_s_lem) (omega (arith, length-drop 28 bytes_s_lem)))

-- at the level of no record
abbrev answer : Result Figures Reason
answer = design_at bytes_s_lem (record_level [])

over_no_record : design_of bytes_s_lem (record_table []) ≡ answer
over_no_record = table_gives_level bytes_s_lem (record_table [])

no_counts : record_counts [] ≡ record { added = 0; missing = 0; refused = 0 }
unfolding tally_after_block readings_of additions odd_byte
no_counts = refl

-- the lines of one sheet, by the route that it makes
abbrev text_by : Counts → Route → List ℕ
text_by counts route = levels_line_of counts ++ (sheet_line route.sheets (numbers_of answer) ++ (route_line_of Alone route 0 ++ []))

one_sheet_text : printed Alone [] bytes_s_lem ≡ text_by (record_counts []) (with_sheet no_sheets answer)
unfolding printed sheet_lines route_after agreed_after flatten
one_sheet_text =
    ap
    (λ (sheets : List (List ℕ)). flatten (levels_line_of (record_counts []) ∷ (sheet_lines Alone (record_level []) no_sheets sheets ++ route_line_of Alone (route_after (record_level []) no_sheets sheets) (agreed_after Alone (record_level []) 0 sheets) ∷ [])))
    one_sheet

pub sample : printed Alone [] bytes_s_lem ≡ text_of_s
sample =
    let route : with_sheet no_sheets answer ≡ record { sheets = 1; answered = 1; class = 0 } =
    routed answer (ap numbers_of (sym over_no_record) ∙ starred_numbers (record_table [])) in
    let line : sheet_line 1 (numbers_of answer) ≡ line_of_s =
    ap (λ (a : Result Figures Reason). sheet_line 1 (numbers_of a)) (sym over_no_record) ∙ starred_sheet (record_table []) in
    one_sheet_text
    ∙ ap₂ text_by no_counts route
    ∙ ap₂ ◌++◌ starred_levels (ap₂ ◌++◌ line (append-nil (route_line 1 1 0) ∙ starred_route))
