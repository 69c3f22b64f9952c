-- Sheets printed: one, and in two parts. By the list of sheets.
use Rattle.std.specs.Prelude.{Result}
use mathlib.Core.Path.{◌≡◌, refl, ap}
use mathlib.Core.List.{List, [], ◌∷◌, ◌++◌}
use Prim.Native.Nat.{ℕ}
use lib.IntN.{ℤ}
use Rattle.design.specs.Design.{design_at}
use Rattle.design.specs.Numbers.{numbers_of}
use Rattle.both.specs.declared.Both.{Both as TwoEngines}
use Rattle.both.proofs.Promises.{same_answer}
use Rattle.lines.specs.Lines.{line_bytes, line_in, place_after, buffer_after}
use Rattle.lines.specs.declared.Form.{Form}
use Rattle.lines.specs.declared.Form.TheVariants.{Alone, Both}
use Rattle.channel.specs.Input.{SoFar}
use Rattle.channel.specs.Output.{place_for, with_line, with_lines}
use Rattle.channel.specs.Route.{no_sheets, with_sheet}
use Rattle.channel.specs.Text.{sheet_line_in, verdict_in, with_verdict, route_after, sheet_lines, agreed_after}
use Rattle.channel.specs.Printing.{input_block, worked_in, Progress, at_first, sheets_printed, InputPrinted}
use Rattle.channel.specs.declared.route.Route.{Route}
use Rattle.channel.proofs.Lines.{lines_in_two}
use Rattle.channel.proofs.Taking.{Putting, begun}
use Rattle.datum.specs.declared.Level.{Level}
use Rattle.gauge.specs.declared.LevelFault.{LevelFault}

-- a sheet's line, from what is worked to the buffer
pub line_printed : (form : Form) (level : Result Level LevelFault) (sheet : List ℕ) (p : Progress) (at : ℕ) (worked : TwoEngines) (route : Route)
    (numbers : List ℤ) (after : ℕ) (later : List ℕ) (agreed : ℕ) → at ≡ place_for line_bytes p.lines.buffer p.lines.at → worked ≡ worked_in form sheet level
    → route ≡ with_sheet p.route worked.answer → numbers ≡ numbers_of worked.answer
    → after ≡ place_after (line_in form route.sheets numbers worked.plain) at p.lines.buffer
    → later ≡ buffer_after (line_in form route.sheets numbers worked.plain) at p.lines.buffer → agreed ≡ with_verdict p.agreed worked.verdict
    → record { route = route; agreed = agreed; lines = record { at = after; buffer = later } } ≡ sheets_printed form level (sheet ∷ []) p
unfolding sheets_printed route_after sheet_lines agreed_after with_lines with_line
line_printed Alone level sheet p at worked route numbers after later agreed a b c d e f g = rw (g, f, e, d, c, b, a)
line_printed Both level sheet p at worked route numbers after later agreed a b c d e f g = rw (g, f, e, d, c, b, a, same_answer sheet level)

module _ (level : Result Level LevelFault) where
  route_in_two : (first second : List (List ℕ)) (route : Route) → route_after level route (first ++ second) ≡ route_after level (route_after level route first) second
  unfolding route_after
  route_in_two [] second route = refl
  route_in_two (sheet ∷ first) second route = route_in_two first second (with_sheet route (design_at sheet level))

module _ (form : Form) (level : Result Level LevelFault) where
  agreed_in_two : (first second : List (List ℕ)) (agreed : ℕ) → agreed_after form level agreed (first ++ second) ≡ agreed_after form level (agreed_after form level agreed first) second
  unfolding agreed_after
  agreed_in_two [] second agreed = refl
  agreed_in_two (sheet ∷ first) second agreed = agreed_in_two first second (with_verdict agreed (verdict_in form sheet level))

  sheet_lines_in_two : (first second : List (List ℕ)) (route : Route)
      → sheet_lines form level route (first ++ second) ≡ sheet_lines form level route first ++ sheet_lines form level (route_after level route first) second
  unfolding route_after sheet_lines
  sheet_lines_in_two [] second route = refl
  sheet_lines_in_two (sheet ∷ first) second route =
      ap (λ (lines : List (List ℕ)). sheet_line_in form (with_sheet route (design_at sheet level)).sheets sheet level ∷ lines)
      (sheet_lines_in_two first second (with_sheet route (design_at sheet level)))

  pub printed_in_two : (first second : List (List ℕ)) (p : Progress) → sheets_printed form level (first ++ second) p ≡ sheets_printed form level second (sheets_printed form level first p)
  unfolding sheets_printed
  printed_in_two first second p =
      rw (route_in_two level first second p.route, agreed_in_two first second p.agreed, sheet_lines_in_two first second p.route, lines_in_two line_bytes (sheet_lines form level p.route first) (sheet_lines form level (route_after level p.route first) second) p.lines)

  pub none_printed : (p : Progress) → sheets_printed form level [] p ≡ p
  unfolding sheets_printed route_after agreed_after sheet_lines with_lines
  none_printed p = refl

  abbrev pub printing : Putting Progress
  printing = record { put = sheets_printed form level; none = none_printed; in_turn_lem = printed_in_two }

  pub begun_at : (route : Route) (at : ℕ) (buffer : List ℕ) → route ≡ no_sheets
      → SoFar input_block (InputPrinted form level (at_first at buffer) (record { route = route; agreed = 0; lines = record { at = at; buffer = buffer } }))
  begun_at route at buffer e = rw e (begun printing (at_first at buffer))
