-- The kept lines of a text without a fault are the lines of its sheets.
-- By going down the lines: the figures of a sheet are filled row by row, and no later row changes those before.
use Rattle.std.specs.Prelude.{Result, Ok, Err, Some, None}
use mathlib.Core.Path.{◌≡◌, refl, ap, ◌∙◌}
use mathlib.Core.Bool.{Bool, true, false}
use mathlib.Core.List.{List, [], ◌∷◌, ◌++◌}
use Prim.Native.Nat.{ℕ, suc, ◌+◌, ◌-◌, ◌<◌}
use native.Mathlib.Omega.{arith}
use borrow.Author.Tests.{ltb-true, ltb-false}
use lib.Dec.{ltb}
use lib.ListN.{length}
use Rattle.laws.specs.Choice.{ifᵇ◌then◌else◌, ◌<ᵇ◌}
use Rattle.laws.specs.Each.{Each}
use Rattle.sheet.specs.Fields.{bad_at, standing_of, count as field_count}
use Rattle.sheet.specs.declared.FieldFault.{FieldFault}
use Rattle.sheet.specs.declared.FieldFault.TheVariants.{Outside, Disagrees as DisagreesThere}
use Rattle.typed.specs.Rows.{count}
use Rattle.typed.specs.Lines.{line_text}
use Rattle.typed.specs.Reading.{entry_of}
use Rattle.typed.specs.declared.EntryFault.TheVariants.{NoName as NameMissing, NoFigure as FigureMissing, NoUnit as UnitMissing}
use Rattle.typed.proofs.Promises.{figure_of_line}
use Rattle.texts.specs.Cutting.{begins_sheet}
use Rattle.texts.specs.Shown.{row_figure}
use Rattle.texts.specs.Steps.{stored, field_of, step, accepted_by, accepted_in, row_step_by, row_step, missing_at, begin_step, other_step, step_of}
use Rattle.texts.specs.Texts.{beginning, all_of}
use Rattle.texts.specs.Typed.{kept, sheets_of, Faultless, row_lines, sheet_lines, Titled, lines_of_all, figures_of_all, SheetFigures, Proper, TypedAs}
use Rattle.texts.specs.declared.Event.TheVariants.{Sheet}
use Rattle.texts.specs.declared.Stage.{Stage}
use Rattle.texts.specs.declared.Stage.TheVariants.{Between, InRow, Skipping}
use Rattle.texts.specs.declared.steps.Step.{Step}
use Rattle.texts.proofs.meaning.Filling.{filled, field_of_lem, Agree, stored_length, stored_before, stored_figure, stored_fine, row_same, fine_not_bad, none_bad_first}
use Rattle.texts.proofs.meaning.Keeping.{NoFault, Clear, sheets_from, sheets_of_text, faultless_clear}
use Rattle.typed.specs.declared.EntryFault.{EntryFault}

-- a line that begins a sheet, and any other
pub begin_step_lem : (stage : Stage) (figures line : List ℕ) → begins_sheet line ≡ true → step_of stage figures line ≡ step (InRow 0) figures (missing_at stage)
unfolding step_of begin_step
begin_step_lem stage figures line e = rw e

pub other_step_lem : (stage : Stage) (figures line : List ℕ) → begins_sheet line ≡ false → step_of stage figures line ≡ other_step stage figures line
unfolding step_of
other_step_lem stage figures line e = rw e

-- the step of a row's line: on to the next row, or the sheet is whole
abbrev pub row_done : List ℕ → ℕ → Step
row_done figures k = ifᵇ k <ᵇ 27 then step (InRow (k + 1)) figures None else step Between figures (Some Sheet)

-- a line in the place of a row that brings no fault says a figure that stands well
pub record RowRead (figures : List ℕ) (k : ℕ) (line : List ℕ) (s : Step) : Type 0 where
  pub figure : ℕ
  pub says : line ≡ line_text k figure
  pub fine : bad_at (stored figures k figure) (field_of k) ≡ false
  pub goes_on : s ≡ row_done (stored figures k figure) k

module _ (figures : List ℕ) (k : ℕ) (line : List ℕ) (h : k < count) where
  accepted : (n : ℕ) → entry_of k line ≡ Ok n → NoFault (accepted_in (stored figures k n) k).event
      → RowRead figures k line (accepted_in (stored figures k n) k)
  unfolding accepted_in
  accepted n said = go (standing_of (stored figures k n) (field_of k)) refl
    where
      go : (t : Result (Unit {0}) FieldFault) → standing_of (stored figures k n) (field_of k) ≡ t → NoFault (accepted_by t (stored figures k n) k).event
          → RowRead figures k line (accepted_by t (stored figures k n) k)
      go (Err Outside) e none = absurd none
      go (Err DisagreesThere) e none = absurd none
      go (Ok tt) e none =
          record {
            figure = n;
            says = figure_of_line k line n said;
            fine = fine_not_bad (stored figures k n) (field_of k) (omega (arith, field_of_lem k h)) e;
            goes_on = refl;
          }

  entered : (e : Result ℕ EntryFault) → entry_of k line ≡ e → NoFault (row_step_by e figures k line).event → RowRead figures k line (row_step_by e figures k line)
  entered (Ok n) said none = accepted n said none
  entered (Err NameMissing) said none = absurd none
  entered (Err FigureMissing) said none = absurd none
  entered (Err UnitMissing) said none = absurd none

  row_read : NoFault (step_of (InRow k) figures line).event → RowRead figures k line (step_of (InRow k) figures line)
  unfolding row_step
  row_read none = go (begins_sheet line) refl none
    where
      go : (b : Bool) → begins_sheet line ≡ b → NoFault (step_of (InRow k) figures line).event → RowRead figures k line (step_of (InRow k) figures line)
      go true e none = absurd (rw (begin_step_lem (InRow k) figures line e) at none)
      go false e none =
          rw (other_step_lem (InRow k) figures line e)
          (entered (entry_of k line) refl (rw (other_step_lem (InRow k) figures line e) at none))

-- what clear lines are, read from between two sheets on: the lines of some sheets, which they bring
pub record Whole (figures : List ℕ) (lines : List (List ℕ)) : Type 0 where
  pub sheets : List Titled
  pub proper : Each Proper sheets
  pub typed : lines ≡ lines_of_all sheets
  pub brought : sheets_from Between figures lines ≡ figures_of_all sheets

-- and read from the row after the first k on: the rest of a sheet with the figures so far, and the lines of some sheets
pub record Rest (k : ℕ) (figures : List ℕ) (lines : List (List ℕ)) : Type 0 where
  pub done : List ℕ
  pub agrees : Agree (filled k) done figures
  pub done_fine : SheetFigures done
  pub sheets : List Titled
  pub proper : Each Proper sheets
  pub typed : lines ≡ row_lines done k (count - k) ++ lines_of_all sheets
  pub brought : sheets_from (InRow k) figures lines ≡ done ∷ figures_of_all sheets

-- the fields so far are fine
pub record SoFar (k : ℕ) (figures : List ℕ) : Type 0 where
  pub within : k < count
  pub long : length figures ≡ field_count
  pub each_fine : (j : ℕ) → j < filled k → bad_at figures j ≡ false

abbrev pub Meant : Stage → List ℕ → List (List ℕ) → Type 0
Meant Between figures lines = length figures ≡ field_count → Whole figures lines
Meant (InRow k) figures lines = SoFar k figures → Rest k figures lines
Meant Skipping figures lines = Unit {0}

-- a sheet begins
begun : (figures line : List ℕ) (lines : List (List ℕ)) → Clear Between figures (line ∷ lines)
    → (Clear (InRow 0) figures lines → SoFar 0 figures → Rest 0 figures lines)
    → length figures ≡ field_count → Whole figures (line ∷ lines)
unfolding lines_of_all sheet_lines
begun figures line lines clear further long = go (begins_sheet line) refl clear
  where
    go : (b : Bool) → begins_sheet line ≡ b → Clear Between figures (line ∷ lines) → Whole figures (line ∷ lines)
    go true e clear =
        let s = begin_step_lem Between figures line e in
        let r = further (rw s at clear.1) (record { within = omega arith; long = long; each_fine = λ j l. absurd (omega arith) }) in
        record {
          sheets = record { title = line; figures = r.done } ∷ r.sheets;
          proper = (record { begins = e; figures_fine = r.done_fine }, r.proper);
          typed = ap (λ (l : List (List ℕ)). line ∷ l) r.typed;
          brought = rw s r.brought;
        }
    go false e clear = absurd (rw (other_step_lem Between figures line e) at clear.0)

-- one line of a row in front of the rest
row_in_front : (done : List ℕ) (k : ℕ) → k < count → row_lines done k (count - k) ≡ line_text k (row_figure done k) ∷ row_lines done (k + 1) (count - (k + 1))
unfolding row_lines
row_in_front done k h = let e : count - k ≡ suc (count - (k + 1)) = omega arith in rw e

-- behind the last row there is none
no_more_rows : (done : List ℕ) (k : ℕ) → k ≡ 27 → row_lines done (k + 1) (count - (k + 1)) ≡ []
unfolding row_lines
no_more_rows done k e = rw e

-- a row is read
module _ (k : ℕ) (figures line : List ℕ) (lines : List (List ℕ)) (so : SoFar k figures) (s : Step) (read : RowRead figures k line s) where
  abbrev pub after : List ℕ
  after = stored figures k read.figure

  after_long : length after ≡ field_count
  after_long = stored_length figures k read.figure so.within ∙ so.long

  after_fine : (j : ℕ) → j < filled (k + 1) → bad_at after j ≡ false
  after_fine = stored_fine figures k read.figure so.within so.long so.each_fine read.fine

  -- the line is that of the row's figure in the sheet that comes of it
  line_of : (done : List ℕ) → Agree (filled (k + 1)) done after → line ≡ line_text k (row_figure done k)
  line_of done agree =
      let same : row_figure done k ≡ read.figure = row_same done after k so.within agree ∙ stored_figure figures k read.figure so.within so.long read.fine in
      rw same read.says

  line_in_front : (done : List ℕ) → Agree (filled (k + 1)) done after → (rest : List (List ℕ))
      → lines ≡ row_lines done (k + 1) (count - (k + 1)) ++ rest → line ∷ lines ≡ row_lines done k (count - k) ++ rest
  line_in_front done agree rest e =
      rw (row_in_front done k so.within, ← line_of done agree) (ap (λ (l : List (List ℕ)). line ∷ l) e)

  -- others of its sheet follow
  next_row : step_of (InRow k) figures line ≡ step (InRow (k + 1)) after None → Rest (k + 1) after lines → Rest k figures (line ∷ lines)
  next_row on r =
      record {
        done = r.done;
        agrees = λ j l. r.agrees j (omega arith) ∙ stored_before figures k read.figure so.within j l;
        done_fine = r.done_fine;
        sheets = r.sheets;
        proper = r.proper;
        typed = line_in_front r.done r.agrees (lines_of_all r.sheets) r.typed;
        brought = rw on r.brought;
      }

  -- it is the last, and the sheet is whole
  last_row : k ≡ 27 → step_of (InRow k) figures line ≡ step Between after (Some Sheet) → Whole after lines → Rest k figures (line ∷ lines)
  last_row end on r =
      record {
        done = after;
        agrees = stored_before figures k read.figure so.within;
        done_fine = record { each_field = after_long; none_bad = none_bad_first after (λ j l. after_fine j (omega arith)) };
        sheets = r.sheets;
        proper = r.proper;
        typed = line_in_front after (λ j l. refl) (lines_of_all r.sheets) (rw (no_more_rows after k end) r.typed);
        brought = rw (on, r.brought);
      }

-- a row of a sheet
rowed : (k : ℕ) (figures line : List ℕ) (lines : List (List ℕ)) → Clear (InRow k) figures (line ∷ lines)
    → ((stage : Stage) (later : List ℕ) → Clear stage later lines → Meant stage later lines)
    → SoFar k figures → Rest k figures (line ∷ lines)
rowed k figures line lines clear further so = go (ltb k 27) refl (row_read figures k line so.within clear.0)
  where
    go : (b : Bool) → ltb k 27 ≡ b → RowRead figures k line (step_of (InRow k) figures line) → Rest k figures (line ∷ lines)
    go true p read =
        let more : k < 27 = ltb-true k 27 p in
        let on : step_of (InRow k) figures line ≡ step (InRow (k + 1)) (stored figures k read.figure) None = rw p at read.goes_on in
        next_row k figures line lines so _ read on
        (further (InRow (k + 1)) _ (rw on at clear.1)
        (record {
          within = omega arith;
          long = after_long k figures line lines so _ read;
          each_fine = after_fine k figures line lines so _ read;
        }))
    go false p read =
        let end : k ≡ 27 = omega (arith, ltb-false k 27 p, so.within) in
        let on : step_of (InRow k) figures line ≡ step Between (stored figures k read.figure) (Some Sheet) = rw p at read.goes_on in
        last_row k figures line lines so _ read end on
        (further Between _ (rw on at clear.1) (after_long k figures line lines so _ read))

sound : (lines : List (List ℕ)) (stage : Stage) (figures : List ℕ) → Clear stage figures lines → Meant stage figures lines
unfolding lines_of_all
sound [] Between figures clear = λ long. record { sheets = []; proper = tt; typed = refl; brought = refl }
sound [] (InRow k) figures clear = absurd clear
sound [] Skipping figures clear = tt
sound (line ∷ lines) Between figures clear = begun figures line lines clear (sound lines (InRow 0) figures)
sound (line ∷ lines) (InRow k) figures clear = rowed k figures line lines clear (sound lines)
sound (line ∷ lines) Skipping figures clear = tt

-- a text without a fault is typed as some sheets, and these are its sheets
pub sound_text : (text : List ℕ) → Faultless text → (sheets : List Titled) × TypedAs text sheets × (sheets_of (all_of text) ≡ figures_of_all sheets)
sound_text text none =
    let w = sound (kept text) Between beginning.figures ((faultless_clear text).0 none) refl in
    (w.sheets, record { lines = w.typed; each_proper = w.proper }, sheets_of_text text ∙ w.brought)
