-- The numbers that turn a line away: each is told exactly when it holds and none before it does.
-- The tests of a line are a chain; each test is led back to what the definition says of the line.
use Rattle.std.specs.Prelude.{Result, Ok, Err, Option, Some, None}
use mathlib.Core.Path.{◌≡◌, refl, sym, ◌∙◌}
use mathlib.Core.Bool.{Bool, true, false, ◌||◌, ◌&&◌, not, or-true, beq}
use mathlib.Core.List.{List, [], ◌∷◌}
use mathlib.Core.Logic.{◌↔◌, ◌⊎◌, inl, inr, ◌≢◌}
use Prim.Native.Nat.{ℕ, ◌+◌, ◌-◌, ◌≤◌, ◌<◌}
use native.Mathlib.Omega.{arith}
use borrow.Author.Tests.{lt-ltb, le-ltb, lt-leb, ne_eqb, ltb-true, ltb-false, eqb-true, eqb-false}
use lib.Dec.{ltb, eqb}
use lib.ListN.{length, set}
use lib.Seq.{get_or-set_same, get_or-set_other}
use Rattle.laws.proofs.Never.{never}
use Rattle.laws.proofs.Rows.{stop, past, Call, bare, Told, exactly}
use Rattle.laws.specs.Choice.{ifᵇ◌then◌else◌, ◌<ᵇ◌, ◌=ᵇ◌}
use Rattle.laws.specs.Rows.{Row, ◌when◌, Exactly}
use Rattle.sheet.specs.Fields.{fields, field_at, nth, field, least, greatest, outside_at, pair_bad, standing_of, range_of, count as field_count}
use Rattle.sheet.specs.declared.FieldFault.{FieldFault}
use Rattle.sheet.specs.declared.FieldFault.TheVariants.{Outside, Disagrees as DisagreesThere}
use Rattle.typed.specs.Rows.{count, level_row, row_at, values_of}
use Rattle.typed.specs.Lines.{front_text, line_text}
use Rattle.typed.specs.Reading.{stands, entry_of, named, row_named}
use Rattle.typed.specs.declared.EntryFault.TheVariants.{NoName as NameMissing, NoFigure as FigureMissing, NoUnit as UnitMissing}
use Rattle.typed.proofs.Promises.{never_two_names, row_named_exactly, no_row_named_exactly, row_named_within, no_name, no_figure, no_unit, figure}
use Rattle.typed.proofs.meaning.Ways.{row_front}
use Rattle.texts.specs.Cutting.{begins_sheet}
use Rattle.texts.specs.Steps.{stored, field_of, step, accepted_by, accepted_in, name_fault_by, name_fault, row_step_by, row_step, step_of}
use Rattle.texts.specs.Typed.{event_number, figure_at, Disagree, line_rows, RefusedAt}
use Rattle.texts.specs.declared.Event.{Event}
use Rattle.texts.specs.declared.Event.TheVariants.{Sheet, Fault}
use Rattle.texts.specs.declared.LineFault.TheVariants.{Twice, Misplaced, NoFigure, NoUnit, OutOfRange, Disagrees}
use Rattle.texts.specs.declared.Stage.TheVariants.{Between, InRow, Skipping}
use Rattle.texts.proofs.meaning.Filling.{RowCase, before_level, at_level, behind_level, row_case, field_of_lem, stored_before_level, source_stored, level_stored, last_stored}
use Rattle.texts.proofs.meaning.Sound.{begin_step_lem, other_step_lem}
use Rattle.typed.specs.declared.EntryFault.{EntryFault}

-- outside two values, as it is tested
outside_test : (n low high : ℕ) → (((n <ᵇ low) || (high <ᵇ n)) ≡ true → (n < low) ⊎ (high < n)) × (((n <ᵇ low) || (high <ᵇ n)) ≡ false → (n < low) ⊎ (high < n) → ⊥)
outside_test n low high = (yes (ltb n low) refl, no_case)
  where
    yes : (a : Bool) → ltb n low ≡ a → (a || (high <ᵇ n)) ≡ true → (n < low) ⊎ (high < n)
    yes true p e = inl (ltb-true n low p)
    yes false p e = inr (ltb-true high n e)

    no_case : ((n <ᵇ low) || (high <ᵇ n)) ≡ false → (n < low) ⊎ (high < n) → ⊥
    no_case e (inl l) = let t : ltb n low ≡ true = lt-ltb n low l in let f : true ≡ false = rw t at e in never cc
    no_case e (inr l) = let t : ltb high n ≡ true = lt-ltb high n l in let f : true ≡ false = rw (t, or-true) at e in never cc

-- field_of of the three kinds of rows
field_before : (k : ℕ) → k < level_row → field_of k ≡ k
unfolding field_of
field_before k l = rw (lt-ltb k level_row l)

field_level : field_of level_row ≡ 27
unfolding field_of
field_level = refl

field_last : field_of 27 ≡ 28
unfolding field_of
field_last = refl

-- one less than a figure, tested against a value, and the figure against one more
less_tested : (n : ℕ) → (2000 <ᵇ n - 1) ≡ (2001 <ᵇ n)
less_tested n = go (ltb 2001 n) refl
  where
    go : (b : Bool) → ltb 2001 n ≡ b → ltb 2000 (n - 1) ≡ b
    go true p = lt-ltb 2000 (n - 1) (omega (arith, ltb-true 2001 n p))
    go false p = le-ltb 2000 (n - 1) (omega (arith, ltb-false 2001 n p))

level_outside : (figures : List ℕ) (n : ℕ) → length figures ≡ field_count → outside_at (stored figures level_row n) 27 ≡ ((n <ᵇ 0) || (2001 <ᵇ n))
unfolding outside_at least greatest field_at fields
level_outside figures n long = rw (level_stored figures n long, le-ltb (n - 1) 0 (omega arith), le-ltb n 0 (omega arith)) (less_tested n)

level_pair : (figures : List ℕ) (n : ℕ) → length figures ≡ field_count → pair_bad (stored figures level_row n) 27 ≡ false
unfolding pair_bad
level_pair figures n long = rw (source_stored figures n long, level_stored figures n long) (go (eqb n 0) refl)
  where
    go : (b : Bool) → eqb n 0 ≡ b → (((ifᵇ b then 0 else 1) =ᵇ 0) && not (n - 1 =ᵇ 0)) ≡ false
    go true p = let e : n ≡ 0 = eqb-true n 0 p in rw e
    go false p = refl

last_pair : (v : List ℕ) → pair_bad v 28 ≡ false
unfolding pair_bad
last_pair v = refl

pair_before : (figures : List ℕ) (k n : ℕ) → k < level_row → length figures ≡ field_count → (b : Bool) → eqb k 25 ≡ b
    → pair_bad (stored figures k n) k ≡ (ifᵇ b then not (beq (field figures 25 =ᵇ 0) (n =ᵇ 0)) else false)
unfolding pair_bad
pair_before figures k n l long true p =
    let e : k ≡ 25 = eqb-true k 25 p in
    let turn : nth (set figures 25 n) 24 ≡ nth figures 24 = get_or-set_other figures 25 24 n 0 (λ d. omega arith) in
    let radius : nth (set figures 25 n) 25 ≡ n = get_or-set_same figures 25 n 0 (omega arith) in
    rw (stored_before_level figures k n l, e, turn, radius)
pair_before figures k n l long false p = rw (p, ne_eqb k 27 (λ (e : k ≡ 27). omega arith))

module _ (figures : List ℕ) (k n : ℕ) (h : k < count) (long : length figures ≡ field_count) where
  -- the range of the row's field is that of the row's figure
  outside_row : outside_at (stored figures k n) (field_of k) ≡ ((n <ᵇ (values_of k).least) || ((values_of k).greatest <ᵇ n))
  unfolding outside_at values_of range_of
  outside_row = go (row_case k h)
    where
      go : RowCase k → outside_at (stored figures k n) (field_of k) ≡ ((n <ᵇ (values_of k).least) || ((values_of k).greatest <ᵇ n))
      go (before_level l) =
          let here : nth (stored figures k n) k ≡ n = rw (stored_before_level figures k n l) (get_or-set_same figures k n 0 (omega arith)) in
          rw (field_before k l, here, lt-ltb k level_row l)
      go (at_level e) = rw (e, field_level) (level_outside figures n long)
      go (behind_level e) = rw (e, field_last, last_stored figures n long)

  -- and only turn and radius are tested against each other
  pair_row : pair_bad (stored figures k n) (field_of k) ≡ (ifᵇ k =ᵇ 25 then not (beq (field figures 25 =ᵇ 0) (n =ᵇ 0)) else false)
  pair_row = go (row_case k h)
    where
      go : RowCase k → pair_bad (stored figures k n) (field_of k) ≡ (ifᵇ k =ᵇ 25 then not (beq (field figures 25 =ᵇ 0) (n =ᵇ 0)) else false)
      go (before_level l) = rw (field_before k l) (pair_before figures k n l long (eqb k 25) refl)
      go (at_level e) = rw (e, field_level) (level_pair figures n long)
      go (behind_level e) = rw (e, field_last) (last_pair (stored figures 27 n))

-- turn and radius, as they are tested
disagree_test : (turn radius : ℕ) (a b : Bool) → eqb turn 0 ≡ a → eqb radius 0 ≡ b
    → (not (beq a b) ≡ true → Disagree turn radius) × (not (beq a b) ≡ false → Disagree turn radius → ⊥)
disagree_test turn radius a b p q = (yes a b p q, apart a b p q)
  where
    yes : (a b : Bool) → eqb turn 0 ≡ a → eqb radius 0 ≡ b → not (beq a b) ≡ true → Disagree turn radius
    yes true true p q e = never cc
    yes true false p q e = inl (eqb-true turn 0 p, eqb-false radius 0 q)
    yes false true p q e = inr (eqb-false turn 0 p, eqb-true radius 0 q)
    yes false false p q e = never cc

    apart : (a b : Bool) → eqb turn 0 ≡ a → eqb radius 0 ≡ b → not (beq a b) ≡ false → Disagree turn radius → ⊥
    apart true true p q e (inl d) = d.1 (eqb-true radius 0 q)
    apart true true p q e (inr d) = d.0 (eqb-true turn 0 p)
    apart true false p q e d = never cc
    apart false true p q e d = never cc
    apart false false p q e (inl d) = eqb-false turn 0 p d.0
    apart false false p q e (inr d) = eqb-false radius 0 q d.1

pair_test : (k turn n : ℕ) (b : Bool) → eqb k 25 ≡ b
    → ((ifᵇ b then not (beq (turn =ᵇ 0) (n =ᵇ 0)) else false) ≡ true → (k ≡ 25) × Disagree turn n)
    × ((ifᵇ b then not (beq (turn =ᵇ 0) (n =ᵇ 0)) else false) ≡ false → (k ≡ 25) × Disagree turn n → ⊥)
pair_test k turn n true p =
    let t = disagree_test turn n (turn =ᵇ 0) (n =ᵇ 0) refl refl in
    (λ e. (eqb-true k 25 p, t.0 e), λ e d. t.1 e d.1)
pair_test k turn n false p = (λ e. never cc, λ e d. eqb-false k 25 p d.0)

-- what is told of a line: its number
abbrev pub telling : Call (Option Event)
telling = bare event_number

-- the rows of a figure that was read
abbrev figure_rows : ℕ → List ℕ → ℕ → List Row
figure_rows k figures n =
    (8 when ((n < (values_of k).least) ⊎ ((values_of k).greatest < n)))
    ∷ (9 when ((k ≡ 25) × Disagree (field figures 25) n))
    ∷ []

module _ (figures : List ℕ) (k : ℕ) (h : k < count) (long : length figures ≡ field_count) where
  accepted_told : (n : ℕ) → Told telling (figure_rows k figures n) (accepted_in (stored figures k n) k).event
  unfolding accepted_in standing_of
  accepted_told n =
      rw (lt-leb field_count (field_of k) (omega (arith, field_of_lem k h)))
      (go (outside_at v (field_of k)) (pair_bad v (field_of k)) refl refl)
    where
      v : List ℕ
      v = stored figures k n

      done : (b : Bool) → event_number (ifᵇ b then step (InRow (k + 1)) v None else step Between v (Some Sheet)).event ≡ 0
      done true = refl
      done false = refl

      go : (a b : Bool) → outside_at v (field_of k) ≡ a → pair_bad v (field_of k) ≡ b
          → Told telling (figure_rows k figures n) (accepted_by (ifᵇ a then Err Outside else (ifᵇ b then Err DisagreesThere else Ok tt)) v k).event
      go true b p q = stop ((outside_test n (values_of k).least (values_of k).greatest).0 (sym (outside_row figures k n h long) ∙ p)) (refl, tt)
      go false b p q =
          past ((outside_test n (values_of k).least (values_of k).greatest).1 (sym (outside_row figures k n h long) ∙ p)) (pairs b q)
        where
          pairs : (b : Bool) → pair_bad v (field_of k) ≡ b
              → Told telling ((9 when ((k ≡ 25) × Disagree (field figures 25) n)) ∷ []) (accepted_by (ifᵇ b then Err DisagreesThere else Ok tt) v k).event
          pairs true q = stop ((pair_test k (field figures 25) n (eqb k 25) refl).0 (sym (pair_row figures k n h long) ∙ q)) (refl, tt)
          pairs false q = past ((pair_test k (field figures 25) n (eqb k 25) refl).1 (sym (pair_row figures k n h long) ∙ q)) (done (k <ᵇ 27), tt)

-- the rows of what stands behind the name, and those of the names
abbrev behind_rows : ℕ → List ℕ → List ℕ → List Row
behind_rows k figures line =
    (6 when (stands (front_text (row_at k) (figure_at k line)) line ≡ false))
    ∷ (7 when (line ≢ line_text k (figure_at k line)))
    ∷ figure_rows k figures (figure_at k line)

abbrev name_rows : ℕ → List ℕ → List ℕ → List Row
name_rows k figures line =
    (3 when ((i : ℕ) → i < count → named line i ≡ false))
    ∷ (4 when ((i : ℕ) × (i < k) × (named line i ≡ true)))
    ∷ (5 when ((i : ℕ) × (k < i) × (i < count) × (named line i ≡ true)))
    ∷ behind_rows k figures line

never_both : (b : Bool) → b ≡ true → b ≡ false → ⊥
never_both b p q = let z : ◌≡◌ {A = ℕ} 0 1 = cc in omega arith

-- the line of a figure begins with it
line_front : (k n : ℕ) → stands (front_text (row_at k) n) (line_text k n) ≡ true
unfolding line_text
line_front k n = row_front (row_at k) n

module _ (figures : List ℕ) (k : ℕ) (line : List ℕ) (h : k < count) (long : length figures ≡ field_count) where
  -- a line with the row's name
  behind_told : named line k ≡ true → (e : Result ℕ EntryFault) → entry_of k line ≡ e → Told telling (behind_rows k figures line) (row_step_by e figures k line).event
  behind_told own (Ok n) e =
      let f = (figure k line n).0 e in
      let same : n ≡ figure_at k line = f.0 in
      let is : line ≡ line_text k (figure_at k line) = rw (← same) f.1 in
      past (λ p. never_both _ (rw (← is) at (line_front k (figure_at k line))) p)
      (past (λ d. d is) (rw same (accepted_told figures k h long (figure_at k line))))
  behind_told own (Err NameMissing) e = absurd (never_both _ own ((no_name k line).0 e))
  behind_told own (Err FigureMissing) e = stop ((no_figure k line).0 e).1 (refl, tt)
  behind_told own (Err UnitMissing) e = let u = (no_unit k line).0 e in past (λ p. never_both _ u.0 p) (stop u.1 (refl, tt))

  -- a line without it
  no_other : named line k ≡ true → (i : ℕ) → i < count → i ≢ k → named line i ≡ true → ⊥
  no_other own i l d other = never_both _ other (never_two_names line k i h l (λ (e : k ≡ i). d (sym e)) own)

  name_told : named line k ≡ false → Told telling (name_rows k figures line) (Some (Fault (name_fault k line) k))
  unfolding name_fault
  name_told not_own = go (row_named line) refl
    where
      placed : (i : ℕ) → row_named line ≡ Some i → i < count → (b : Bool) → ltb i k ≡ b
          → Told telling
          ((4 when ((i : ℕ) × (i < k) × (named line i ≡ true)))
          ∷ (5 when ((i : ℕ) × (k < i) × (i < count) × (named line i ≡ true)))
          ∷ behind_rows k figures line)
          (Some (Fault (ifᵇ b then Twice else Misplaced) k))
      placed i e some true p = stop (i, ltb-true i k p, (row_named_exactly line i some).0 e) (refl, tt)
      placed i e some false p =
          let l : k ≤ i = ltb-false i k p in
          let d : i ≡ k → ⊥ = λ s. never_both _ (rw s at ((row_named_exactly line i some).0 e)) not_own in
          past (λ t.
          let j : t.0 < k = t.1 in
          let named_both : Some i ≡ Some t.0 = sym e ∙ (row_named_exactly line t.0 (omega arith)).1 t.2 in
          let one : i ≡ t.0 = cc in
          omega arith)
          (stop (i, omega arith, some, (row_named_exactly line i some).0 e) (refl, tt))

      go : (r : Option ℕ) → row_named line ≡ r → Told telling (name_rows k figures line) (Some (Fault (name_fault_by r k) k))
      go None e = stop ((no_row_named_exactly line).0 e) (refl, tt)
      go (Some i) e =
          past (λ none. never_both _ ((row_named_exactly line i (row_named_within line i e)).0 e) (none i (row_named_within line i e)))
          (placed i e (row_named_within line i e) (ltb i k) refl)

  row_told : Told telling (name_rows k figures line) (row_step figures k line).event
  unfolding row_step
  row_told = go (named line k) refl
    where
      go : (b : Bool) → named line k ≡ b → Told telling (name_rows k figures line) (row_step_by (entry_of k line) figures k line).event
      go true own =
          past (λ none. never_both _ own (none k h))
          (past (λ t. let l : t.0 < k = t.1 in no_other own t.0 (omega arith) (λ (e : t.0 ≡ k). omega arith) t.2)
          (past (λ t. let l : k < t.0 = t.1 in no_other own t.0 t.2 (λ (e : t.0 ≡ k). omega arith) t.3)
          (behind_told own (entry_of k line) refl)))
      go false not_own = rw ((no_name k line).1 not_own) (name_told not_own)

  line_told : Told telling (line_rows k figures line) (step_of (InRow k) figures line).event
  line_told = go (begins_sheet line) refl
    where
      go : (b : Bool) → begins_sheet line ≡ b → Told telling (line_rows k figures line) (step_of (InRow k) figures line).event
      go true e = rw (begin_step_lem (InRow k) figures line e) (stop e (refl, tt))
      go false e = rw (other_step_lem (InRow k) figures line e) (past (λ p. never_both _ p e) row_told)

  -- in the place of a row: from 2 to 9
  pub number_exactly : Exactly (line_rows k figures line) (event_number (step_of (InRow k) figures line).event)
  number_exactly = exactly telling (line_rows k figures line) tt (step_of (InRow k) figures line).event line_told

-- in no sheet: 1 exactly when the line begins none
pub number_1_exactly : (figures line : List ℕ) → (event_number (step_of Between figures line).event ≡ 1) ↔ (begins_sheet line ≡ false)
number_1_exactly figures line = go (begins_sheet line) refl
  where
    go : (b : Bool) → begins_sheet line ≡ b → (event_number (step_of Between figures line).event ≡ 1) ↔ (b ≡ false)
    go true e = rw (begin_step_lem Between figures line e) (λ p. never cc, λ p. never cc)
    go false e = rw (other_step_lem Between figures line e) (λ p. refl, λ p. refl)

-- behind a fault a line that begins no sheet brings nothing
pub skipped : (figures line : List ℕ) → begins_sheet line ≡ false → step_of Skipping figures line ≡ step Skipping figures None
skipped figures line e = other_step_lem Skipping figures line e

-- where a row was to stand a line brings no fault, or is turned away
module _ (figures : List ℕ) (k : ℕ) (line : List ℕ) where
  accepted_way : (t : Result (Unit {0}) FieldFault) (v : List ℕ) → (event_number (accepted_by t v k).event ≡ 0) ⊎ RefusedAt k (accepted_by t v k)
  accepted_way (Err Outside) v = inr (record { fault = OutOfRange; told = refl; then_skips = refl })
  accepted_way (Err DisagreesThere) v = inr (record { fault = Disagrees; told = refl; then_skips = refl })
  accepted_way (Ok tt) v = go (k <ᵇ 27)
    where
      go : (b : Bool) → (event_number (ifᵇ b then step (InRow (k + 1)) v None else step Between v (Some Sheet)).event ≡ 0)
          ⊎ RefusedAt k (ifᵇ b then step (InRow (k + 1)) v None else step Between v (Some Sheet))
      go true = inl refl
      go false = inl refl

  row_way : (e : Result ℕ EntryFault) → (event_number (row_step_by e figures k line).event ≡ 0) ⊎ RefusedAt k (row_step_by e figures k line)
  unfolding accepted_in
  row_way (Ok n) = accepted_way (standing_of (stored figures k n) (field_of k)) (stored figures k n)
  row_way (Err NameMissing) = inr (record { fault = name_fault k line; told = refl; then_skips = refl })
  row_way (Err FigureMissing) = inr (record { fault = NoFigure; told = refl; then_skips = refl })
  row_way (Err UnitMissing) = inr (record { fault = NoUnit; told = refl; then_skips = refl })

  pub refused_once : begins_sheet line ≡ false
      → (event_number (step_of (InRow k) figures line).event ≡ 0) ⊎ RefusedAt k (step_of (InRow k) figures line)
  unfolding row_step
  refused_once e = rw (other_step_lem (InRow k) figures line e) (row_way (entry_of k line))
