-- The whole text: the lines that were put are those of the record, the sheets and the route, so what was written and what stands is the text.
use Rattle.std.specs.Prelude.{Option, Some, None, Result}
use mathlib.Core.Path.{◌≡◌, sym, ap, ap₂, ◌∙◌}
use mathlib.Core.List.{List, [], ◌∷◌, ◌++◌}
use Prim.Native.Nat.{ℕ, ◌≤◌}
use borrow.Author.Tests.{le-leb}
use lib.ListN.{length}
use Rattle.gauge.specs.Table.{empty_table}
use Rattle.gauge.specs.Designing.{design_level}
use Rattle.record.specs.declared.Counts.{Counts}
use Rattle.lines.specs.Lines.{line_bytes, place_after, buffer_after}
use Rattle.lines.specs.declared.Form.{Form}
use Rattle.channel.specs.Input.{ToItsEnd}
use Rattle.channel.specs.Output.{Lines, standing, with_line, with_lines, written}
use Rattle.channel.specs.Route.{no_sheets}
use Rattle.channel.specs.Text.{sheets_of, record_level, record_counts, route_after, sheet_lines, agreed_after, levels_line_of, route_line_of, lines_of, printed}
use Rattle.channel.specs.Printing.{file_block, input_block, FileAdded, Progress, progress, at_first, sheets_printed, InputPrinted, RoutePrinted, sheets_and_route, LinesPrinted, TextOf, TextPrinted}
use Rattle.channel.specs.declared.sheets.State.{State}
use Rattle.channel.proofs.Blocks.{brought}
use Rattle.channel.proofs.Lines.{place_kept, line_put, all_lines, lines_in_two}
use Rattle.datum.specs.declared.Level.{Level}
use Rattle.gauge.specs.declared.LevelFault.{LevelFault}

module _ (form : Form) (buffer file input : List ℕ) where
  abbrev first : Lines
  first = record { at = 0; buffer = buffer }

  -- the record's line, the sheets' lines, the route's line
  abbrev in_turn_lem : Lines
  in_turn_lem = sheets_and_route form (record_level file) input (with_line line_bytes (levels_line_of (record_counts file)) first)

  all_in_turn : with_lines line_bytes (lines_of form file input) first ≡ in_turn_lem
  unfolding with_lines
  all_in_turn =
      lines_in_two line_bytes (sheet_lines form (record_level file) no_sheets (sheets_of input))
      (route_line_of form (route_after (record_level file) no_sheets (sheets_of input)) (agreed_after form (record_level file) 0 (sheets_of input)) ∷ [])
      (with_line line_bytes (levels_line_of (record_counts file)) first)

  in_order : line_bytes ≤ length buffer → (l : Lines) → l ≡ in_turn_lem → written line_bytes (lines_of form file input) first ++ standing l ≡ printed form file input
  unfolding printed
  in_order space l e = ap (λ (m : Lines). written line_bytes (lines_of form file input) first ++ standing m) (e ∙ sym all_in_turn) ∙ all_lines line_bytes (lines_of form file input) first space

module _ (form : Form) (buffer : List ℕ) (space : line_bytes ≤ length buffer) where
  levels_put : (counts : Counts) (at : ℕ) (later : List ℕ) → at ≡ place_after (levels_line_of counts) 0 buffer → later ≡ buffer_after (levels_line_of counts) 0 buffer
      → ◌≡◌ {A = Lines} (record { at = at; buffer = later }) (with_line line_bytes (levels_line_of counts) (record { at = 0; buffer = buffer }))
  levels_put counts at later =
      line_put line_bytes (levels_line_of counts) (record { at = 0; buffer = buffer }) 0 at later (place_kept line_bytes buffer 0 (le-leb line_bytes (length buffer) space))

  -- the three parts, one behind the other
  pub lines_put : (level : Result Level LevelFault) (counts : Counts) (at : ℕ) (after : List ℕ) (state : State) (printed-after : List ℕ) (rest : ℕ) (later : List ℕ)
      → at ≡ place_after (levels_line_of counts) 0 buffer → after ≡ buffer_after (levels_line_of counts) 0 buffer
      → ToItsEnd input_block (InputPrinted form level (at_first at after) (progress state printed-after)) → RoutePrinted form state printed-after rest later
      → LinesPrinted form level counts buffer (Some rest) later
  unfolding sheets_printed
  lines_put level counts at after state printed-after rest later a b came r =
      brought input_block (InputPrinted form level (at_first at after) (progress state printed-after))
      (λ (input : List ℕ). ◌≡◌ {A = Lines} (record { at = rest; buffer = later }) (sheets_and_route form level input (with_line line_bytes (levels_line_of counts) (record { at = 0; buffer = buffer }))))
      (λ input i. r ∙ ap (λ (p : Progress). with_line line_bytes (route_line_of form p.route p.agreed) p.lines) i ∙ ap (sheets_and_route form level input) (levels_put counts at after a b))
      came

  -- over a record
  pub text_whole : (table : List ℕ) (counts : Counts) (level : Result Level LevelFault) (text : Option ℕ) (later : List ℕ) → ToItsEnd file_block (FileAdded empty_table counts table)
      → level ≡ design_level table → LinesPrinted form level counts buffer text later → TextPrinted form buffer text later
  text_whole table counts level None later read l lines = tt
  text_whole table counts level (Some rest) later read l lines =
      brought file_block (FileAdded empty_table counts table) (λ (file : List ℕ). ToItsEnd input_block (TextOf form buffer rest later file))
      (λ file f. brought input_block
      (λ (input : List ℕ). ◌≡◌ {A = Lines} (record { at = rest; buffer = later }) (sheets_and_route form level input (with_line line_bytes (levels_line_of counts) (record { at = 0; buffer = buffer }))))
      (TextOf form buffer rest later file)
      (λ input put. in_order form buffer file input space (record { at = rest; buffer = later })
      (put
      ∙ ap₂ (λ (at_level : Result Level LevelFault) (counted : Counts). sheets_and_route form at_level input (with_line line_bytes (levels_line_of counted) (record { at = 0; buffer = buffer })))
      (l ∙ ap design_level f.added) f.counted))
      lines)
      read
