-- A text read by the lines that it keeps: places and numbers of lines aside, what it brings comes from these alone.
use Rattle.std.specs.Prelude.{Option, Some, None}
use mathlib.Core.Path.{◌≡◌, refl, ◌∙◌}
use mathlib.Core.Bool.{Bool, true, false}
use mathlib.Core.List.{List, [], ◌∷◌, ◌++◌, append_assoc}
use mathlib.Core.Logic.{◌↔◌}
use Prim.Native.Nat.{ℕ}
use Rattle.laws.proofs.Never.{never}
use Rattle.laws.specs.Choice.{ifᵇ◌then◌else◌}
use Rattle.texts.specs.Cutting.{lines_of, bare, passed_over}
use Rattle.texts.specs.Steps.{step, missing_at, step_of, line_step}
use Rattle.texts.specs.Texts.{beginning, happened_in, if_happened, found_by, turn_on, ended_at, all_in, all_of}
use Rattle.texts.specs.Typed.{kept_of, kept, fault_in, faults_of, sheet_in, sheets_of, Faultless}
use Rattle.texts.specs.declared.Cursor.{Cursor}
use Rattle.texts.specs.declared.Event.{Event}
use Rattle.texts.specs.declared.Event.TheVariants.{Sheet, Fault}
use Rattle.texts.specs.declared.Found.{Found}
use Rattle.texts.specs.declared.Stage.{Stage}
use Rattle.texts.specs.declared.Stage.TheVariants.{Between, InRow, Skipping}
use Rattle.texts.specs.declared.steps.Step.{Step}

-- what a line brings is no fault
abbrev pub NoFault : Option Event → Type 0
NoFault None = Unit {0}
NoFault (Some Sheet) = Unit {0}
NoFault (Some (Fault fault row)) = ⊥

-- kept lines bring no fault, read from a stage on
abbrev pub Clear : Stage → List ℕ → List (List ℕ) → Type 0
Clear stage figures [] = NoFault (missing_at stage)
Clear stage figures (line ∷ lines) =
    let s = step_of stage figures line in
    NoFault s.event × Clear s.stage s.figures lines

-- the sheets that they bring
abbrev pub sheets_from : Stage → List ℕ → List (List ℕ) → List (List ℕ)
sheets_from stage figures [] = []
sheets_from stage figures (line ∷ lines) =
    let s = step_of stage figures line in
    sheet_in s.event s.figures ++ sheets_from s.stage s.figures lines

-- the faults and the sheets of what was found, part by part
faults_append : (first second : List Found) → faults_of (first ++ second) ≡ faults_of first ++ faults_of second
unfolding faults_of
faults_append [] second = refl
faults_append (found ∷ first) second = rw (faults_append first second, append_assoc)

sheets_append : (first second : List Found) → sheets_of (first ++ second) ≡ sheets_of first ++ sheets_of second
unfolding sheets_of
sheets_append [] second = refl
sheets_append (found ∷ first) second = rw (sheets_append first second, append_assoc)

faults_happened : (found : Found) → faults_of (if_happened found) ≡ fault_in found.event found
unfolding faults_of
faults_happened found = go found.event refl
  where
    go : (e : Option Event) → found.event ≡ e → faults_of (ifᵇ happened_in e then found ∷ [] else []) ≡ fault_in e found
    go None p = refl
    go (Some Sheet) p = rw p
    go (Some (Fault fault row)) p = rw p

sheets_happened : (found : Found) → sheets_of (if_happened found) ≡ sheet_in found.event found.cursor.figures
unfolding sheets_of
sheets_happened found = go found.event refl
  where
    go : (e : Option Event) → found.event ≡ e → sheets_of (ifᵇ happened_in e then found ∷ [] else []) ≡ sheet_in e found.cursor.figures
    go None p = refl
    go (Some Sheet) p = rw p
    go (Some (Fault fault row)) p = rw p

-- no fault on a line and none behind it
no_faults : (event : Option Event) (found : Found) (rest : List Found) → (fault_in event found ++ rest ≡ []) ↔ (NoFault event × (rest ≡ []))
no_faults None found rest = (λ e. (tt, e), λ p. p.1)
no_faults (Some Sheet) found rest = (λ e. (tt, e), λ p. p.1)
no_faults (Some (Fault fault row)) found rest = (λ e. never cc, λ p. absurd p.0)

-- a line that is passed over, and one that is kept
module _ (bytes : ℕ) (c : Cursor) (line : List ℕ) (lines : List (List ℕ)) where
  -- where the reading goes on behind a line
  abbrev pub behind_passed : Cursor
  behind_passed = (found_by bytes c line (step c.stage c.figures None)).cursor

  abbrev pub found_kept : Found
  found_kept = found_by bytes c line (step_of c.stage c.figures (bare line))

  all_passed : passed_over (bare line) ≡ true → all_in bytes c (line ∷ lines) ≡ all_in bytes behind_passed lines
  unfolding all_in turn_on line_step
  all_passed e = rw e

  all_kept : passed_over (bare line) ≡ false → all_in bytes c (line ∷ lines) ≡ if_happened found_kept ++ all_in bytes found_kept.cursor lines
  unfolding all_in turn_on line_step
  all_kept e = rw e

  kept_passed : passed_over (bare line) ≡ true → kept_of (line ∷ lines) ≡ kept_of lines
  unfolding kept_of
  kept_passed e = rw e

  kept_kept : passed_over (bare line) ≡ false → kept_of (line ∷ lines) ≡ bare line ∷ kept_of lines
  unfolding kept_of
  kept_kept e = rw e

-- behind the last line no sheet is found
no_sheet_missing : (stage : Stage) (figures : List ℕ) → sheet_in (missing_at stage) figures ≡ []
no_sheet_missing Between figures = refl
no_sheet_missing (InRow k) figures = refl
no_sheet_missing Skipping figures = refl

none_kept : kept_of [] ≡ []
unfolding kept_of
none_kept = refl

-- what is found behind the last line
all_none : (bytes : ℕ) (c : Cursor) → all_in bytes c [] ≡ if_happened (ended_at c)
unfolding all_in
all_none bytes c = refl

sheets_ended : (c : Cursor) → sheets_of (if_happened (ended_at c)) ≡ []
unfolding ended_at
sheets_ended c = sheets_happened (ended_at c) ∙ no_sheet_missing c.stage c.figures

ended_clear : (c : Cursor) → (faults_of (if_happened (ended_at c)) ≡ []) ↔ NoFault (missing_at c.stage)
unfolding ended_at
ended_clear c = rw (faults_happened (ended_at c)) (go (missing_at c.stage))
  where
    go : (e : Option Event) → (fault_in e (ended_at c) ≡ []) ↔ NoFault e
    go None = (λ e. tt, λ t. refl)
    go (Some Sheet) = (λ e. tt, λ t. refl)
    go (Some (Fault fault row)) = (λ e. never cc, λ t. absurd t)

-- the sheets that lines bring are those of the kept lines
sheets_in : (bytes : ℕ) (c : Cursor) (lines : List (List ℕ)) → sheets_of (all_in bytes c lines) ≡ sheets_from c.stage c.figures (kept_of lines)
sheets_in bytes c [] = rw (all_none bytes c, none_kept) (sheets_ended c)
sheets_in bytes c (line ∷ lines) =
    go (passed_over (bare line)) refl (sheets_in bytes (behind_passed bytes c line lines) lines)
    (sheets_in bytes (found_kept bytes c line lines).cursor lines)
  where
    s : Step
    s = step_of c.stage c.figures (bare line)

    go : (b : Bool) → passed_over (bare line) ≡ b
        → sheets_of (all_in bytes (behind_passed bytes c line lines) lines) ≡ sheets_from c.stage c.figures (kept_of lines)
        → sheets_of (all_in bytes (found_kept bytes c line lines).cursor lines) ≡ sheets_from s.stage s.figures (kept_of lines)
        → sheets_of (all_in bytes c (line ∷ lines)) ≡ sheets_from c.stage c.figures (kept_of (line ∷ lines))
    go true p over on = rw (all_passed bytes c line lines p, kept_passed bytes c line lines p) over
    go false p over on =
        rw (
          all_kept bytes c line lines p,
          kept_kept bytes c line lines p,
          sheets_append (if_happened (found_kept bytes c line lines)) (all_in bytes (found_kept bytes c line lines).cursor lines),
          sheets_happened (found_kept bytes c line lines),
          on,
        )

-- and they bring no fault exactly when these bring none
clear_in : (bytes : ℕ) (c : Cursor) (lines : List (List ℕ)) → (faults_of (all_in bytes c lines) ≡ []) ↔ Clear c.stage c.figures (kept_of lines)
clear_in bytes c [] = rw (all_none bytes c, none_kept) (ended_clear c)
clear_in bytes c (line ∷ lines) =
    go (passed_over (bare line)) refl (clear_in bytes (behind_passed bytes c line lines) lines)
    (clear_in bytes (found_kept bytes c line lines).cursor lines)
  where
    s : Step
    s = step_of c.stage c.figures (bare line)

    go : (b : Bool) → passed_over (bare line) ≡ b
        → (faults_of (all_in bytes (behind_passed bytes c line lines) lines) ≡ []) ↔ Clear c.stage c.figures (kept_of lines)
        → (faults_of (all_in bytes (found_kept bytes c line lines).cursor lines) ≡ []) ↔ Clear s.stage s.figures (kept_of lines)
        → (faults_of (all_in bytes c (line ∷ lines)) ≡ []) ↔ Clear c.stage c.figures (kept_of (line ∷ lines))
    go true p over on = rw (all_passed bytes c line lines p, kept_passed bytes c line lines p) over
    go false p over on =
        rw (
          all_kept bytes c line lines p,
          kept_kept bytes c line lines p,
          faults_append (if_happened (found_kept bytes c line lines)) (all_in bytes (found_kept bytes c line lines).cursor lines),
          faults_happened (found_kept bytes c line lines),
        )
        (let both = no_faults s.event (found_kept bytes c line lines) (faults_of (all_in bytes (found_kept bytes c line lines).cursor lines)) in
        (λ e. let f = both.0 e in (f.0, on.0 f.1), λ q. both.1 (q.0, on.1 q.1)))

-- a whole text
module _ (text : List ℕ) where
  pub sheets_of_text : sheets_of (all_of text) ≡ sheets_from Between beginning.figures (kept text)
  unfolding all_of kept
  sheets_of_text = sheets_in _ beginning (lines_of text)

  pub faultless_clear : Faultless text ↔ Clear Between beginning.figures (kept text)
  unfolding Faultless all_of kept
  faultless_clear = clear_in _ beginning (lines_of text)
