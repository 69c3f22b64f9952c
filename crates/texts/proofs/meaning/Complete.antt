-- A text whose kept lines are those of some sheets has no fault, and these are its sheets.
-- By going down the sheets and, in each, down its rows.
use Rattle.std.specs.Prelude.{Some, None}
use mathlib.Core.Path.{◌≡◌, refl, ap, sym, ◌∙◌}
use mathlib.Core.Bool.{Bool, true, false, ◌||◌, not}
use mathlib.Core.List.{List, [], ◌∷◌, ◌++◌}
use Prim.Native.Nat.{ℕ, zero, suc, ◌+◌, ◌-◌, ◌%◌, ◌≤◌, ◌<◌}
use native.Mathlib.Omega.{arith}
use borrow.Author.Tests.{lt-ltb, le-ltb, eq-eqb, ne_eqb, eqb-true, eqb-false, ltb-true, ltb-false}
use lib.Dec.{ltb, eqb}
use lib.ListN.{length}
use lib.Seq.{ext_get_or, get_or-set_same}
use Rattle.laws.proofs.Never.{never}
use Rattle.laws.specs.Choice.{ifᵇ◌then◌else◌, ◌<ᵇ◌, ◌=ᵇ◌}
use Rattle.laws.specs.Each.{Each}
use Rattle.sheet.specs.Fields.{nth, field, fields, field_at, least, greatest, range_of, pair_bad, bad_at, count as field_count}
use Rattle.typed.specs.Rows.{bytes_of, count, level_row, values_of}
use Rattle.typed.specs.Lines.{line_text}
use Rattle.typed.specs.Reading.{stands}
use Rattle.typed.proofs.Promises.{line_says_figure, no_titled_sheet_line}
use Rattle.typed.proofs.meaning.Names.{begins_no_sheet}
use Rattle.texts.specs.Cutting.{begins_sheet}
use Rattle.texts.specs.Shown.{row_figure}
use Rattle.texts.specs.Steps.{stored, field_of, step, accepted_in, row_step, step_of}
use Rattle.texts.specs.Texts.{beginning, all_of}
use Rattle.texts.specs.Typed.{sheets_of, Faultless, row_lines, sheet_lines, Titled, lines_of_all, figures_of_all, SheetFigures, Proper, TypedAs}
use Rattle.texts.specs.declared.Event.TheVariants.{Sheet}
use Rattle.texts.specs.declared.Stage.{Stage}
use Rattle.texts.specs.declared.Stage.TheVariants.{Between, InRow}
use Rattle.texts.proofs.meaning.Filling.{RowCase, before_level, at_level, behind_level, row_case, filled, field_of_lem, Agree, stored_length, stored_before, stored_before_level, source_stored, level_stored, last_stored, bad_same, not_bad_fine, not_bad_within, level_within, first_none_bad}
use Rattle.texts.proofs.meaning.Keeping.{Clear, sheets_from, sheets_of_text, faultless_clear}
use Rattle.texts.proofs.meaning.Sound.{row_done, begin_step_lem, other_step_lem}

-- no line of a row begins a sheet
pub row_begins_none : (i n : ℕ) → i < count → begins_sheet (line_text i n) ≡ false
unfolding begins_sheet
row_begins_none i n h = go (length (line_text i n) =ᵇ 5)
  where
    go : (b : Bool) → (ifᵇ b then stands (bytes_of "sheet") (line_text i n) else stands (bytes_of "sheet ") (line_text i n)) ≡ false
    go true = begins_no_sheet i n h
    go false = no_titled_sheet_line i n h

-- fields 27 and 28 of figures that are fine: a level off the record has no figure
no_level : (v : List ℕ) → bad_at v 27 ≡ false → nth v 26 ≡ 0 → nth v 27 ≡ 0
unfolding bad_at pair_bad
no_level v fine z = go (nth v 27 <ᵇ least 27) (greatest 27 <ᵇ nth v 27) (eqb (nth v 27) 0) refl (rw (eq-eqb (nth v 26) 0 z) at fine)
  where
    go : (a b t : Bool) → eqb (nth v 27) 0 ≡ t → (a || (b || not t)) ≡ false → nth v 27 ≡ 0
    go a b true p e = eqb-true (nth v 27) 0 p
    go true b false p e = never cc
    go false true false p e = never cc
    go false false false p e = never cc

source_within : (v : List ℕ) → bad_at v 26 ≡ false → nth v 26 ≤ 1
unfolding greatest field_at fields
source_within v fine = not_bad_within v 26 fine

-- the level's figure gives back its two fields
module _ (v : List ℕ) (source : bad_at v 26 ≡ false) (given : bad_at v 27 ≡ false) where
  source_back : (ifᵇ row_figure v level_row =ᵇ 0 then 0 else 1) ≡ nth v 26
  unfolding row_figure
  source_back = go (eqb (nth v 26) 0) refl
    where
      go : (b : Bool) → eqb (nth v 26) 0 ≡ b → (ifᵇ (ifᵇ b then 0 else nth v 27 % 65536 + 1) =ᵇ 0 then 0 else 1) ≡ nth v 26
      go true p = sym (eqb-true (nth v 26) 0 p)
      go false p =
          let some : nth v 26 ≡ 0 → ⊥ = eqb-false (nth v 26) 0 p in
          rw (ne_eqb (nth v 27 % 65536 + 1) 0 (λ (e : nth v 27 % 65536 + 1 ≡ 0). omega arith)) (omega (arith, source_within v source))

  level_figure_back : row_figure v level_row - 1 ≡ nth v 27
  unfolding row_figure
  level_figure_back = go (eqb (nth v 26) 0) refl
    where
      go : (b : Bool) → eqb (nth v 26) 0 ≡ b → (ifᵇ b then 0 else nth v 27 % 65536 + 1) - 1 ≡ nth v 27
      go true p = sym (no_level v given (eqb-true (nth v 26) 0 p))
      go false p = omega (arith, level_within v given)

-- the figures of the other rows are those of their fields
row_before : (v : List ℕ) (k : ℕ) → k < level_row → row_figure v k ≡ nth v k
unfolding row_figure
row_before v k l = rw (lt-ltb k level_row l)

pub row_before_field : (v : List ℕ) (k : ℕ) → k < level_row → row_figure v k ≡ field v (k + 1)
row_before_field v k l = let e : k + 1 - 1 ≡ k = omega arith in rw e (row_before v k l)

pub row_last : (v : List ℕ) → row_figure v 27 ≡ nth v 28
unfolding row_figure
row_last v = refl

pub row_record : (v : List ℕ) → field v 27 ≡ 0 → row_figure v level_row ≡ 0
unfolding row_figure
row_record v e = rw (eq-eqb (field v 27) 0 e)

pub row_level : (v : List ℕ) → SheetFigures v → (field v 27 ≡ 0 → ⊥) → row_figure v level_row ≡ field v 28 + 1
unfolding row_figure
row_level v fine d = rw (ne_eqb (field v 27) 0 d) (omega (arith, level_within v (first_none_bad v fine.none_bad 27 (omega arith))))

-- some lines bring a sheet's figures, and then what the rest brings
pub record Brings (stage : Stage) (figures : List ℕ) (lines : List (List ℕ)) (v : List ℕ) (rest : List (List ℕ)) : Type 0 where
  pub clear : Clear Between v rest → Clear stage figures lines
  pub sheets : sheets_from stage figures lines ≡ v ∷ sheets_from Between v rest

-- one line more in front of them: it brings nothing, or the sheet
module _ (stage : Stage) (figures line : List ℕ) (v : List ℕ) (rest : List (List ℕ)) where
  more_lines : (next : Stage) (later : List ℕ) (lines : List (List ℕ)) → step_of stage figures line ≡ step next later None
      → Brings next later lines v rest → Brings stage figures (line ∷ lines) v rest
  more_lines next later lines on b = record { clear = λ c. rw on (tt, b.clear c); sheets = rw on b.sheets }

  last_line : step_of stage figures line ≡ step Between v (Some Sheet) → Brings stage figures (line ∷ rest) v rest
  last_line on = record { clear = λ c. rw on (tt, c); sheets = rw on }

first_row : (v : List ℕ) (k m : ℕ) → row_lines v k (suc m) ≡ line_text k (row_figure v k) ∷ row_lines v (k + 1) m
unfolding row_lines
first_row v k m = refl

no_row : (v : List ℕ) (k : ℕ) → row_lines v k 0 ≡ []
unfolding row_lines
no_row v k = refl

-- the figure of a row is among its row's values
module _ (v : List ℕ) (fine : (j : ℕ) → j < field_count → bad_at v j ≡ false) where
  pub row_within : (k : ℕ) → k < count → row_figure v k ≤ (values_of k).greatest
  unfolding values_of range_of
  row_within k h = go (row_case k h)
    where
      go : RowCase k → row_figure v k ≤ (values_of k).greatest
      go (before_level l) = rw (row_before v k l, lt-ltb k level_row l) (not_bad_within v k (fine k (omega arith)))
      go (at_level e) = rw e (omega (arith, level_figure_back v (fine 26 (omega arith)) (fine 27 (omega arith)), level_within v (fine 27 (omega arith))))
      go (behind_level e) = rw (e, row_last v) (not_bad_within v 28 (fine 28 (omega arith)))

  -- the field or the two that a row fills
  fills_here : (figures : List ℕ) (k : ℕ) → k < count → length figures ≡ field_count → (j : ℕ) → filled k ≤ j → j < filled (k + 1)
      → nth (stored figures k (row_figure v k)) j ≡ nth v j
  fills_here figures k h long j m l = go (row_case k h)
    where
      two : (b : Bool) → eqb j 26 ≡ b → k ≡ level_row → nth (stored figures level_row (row_figure v level_row)) j ≡ nth v j
      two true p e =
          rw (eqb-true j 26 p) (source_stored figures (row_figure v level_row) long ∙ source_back v (fine 26 (omega arith)) (fine 27 (omega arith)))
      two false p e =
          let d : j ≡ 26 → ⊥ = eqb-false j 26 p in
          let i : j ≡ 27 = omega arith in
          rw i (level_stored figures (row_figure v level_row) long ∙ level_figure_back v (fine 26 (omega arith)) (fine 27 (omega arith)))

      go : RowCase k → nth (stored figures k (row_figure v k)) j ≡ nth v j
      go (before_level b) =
          let i : j ≡ k = omega arith in
          rw (i, stored_before_level figures k (row_figure v k) b) (get_or-set_same figures k (row_figure v k) 0 (omega arith) ∙ row_before v k b)
      go (at_level e) = rw e (two (eqb j 26) refl e)
      go (behind_level e) =
          let i : j ≡ 28 = omega arith in
          rw (e, i) (last_stored figures (row_figure v 27) long ∙ row_last v)

  -- a row filled with its figure of v agrees with v so far
  fills : (figures : List ℕ) (k : ℕ) → k < count → length figures ≡ field_count → Agree (filled k) figures v
      → Agree (filled (k + 1)) (stored figures k (row_figure v k)) v
  fills figures k h long past j l = go (ltb j (filled k)) refl
    where
      go : (b : Bool) → ltb j (filled k) ≡ b → nth (stored figures k (row_figure v k)) j ≡ nth v j
      go true p = let m : j < filled k = ltb-true j (filled k) p in stored_before figures k (row_figure v k) h j m ∙ past j m
      go false p = fills_here figures k h long j (ltb-false j (filled k) p) l

  -- the line of a row's figure is read as that figure, and it stands well
  row_reads : (figures : List ℕ) (k : ℕ) → k < count → length figures ≡ field_count → Agree (filled k) figures v
      → step_of (InRow k) figures (line_text k (row_figure v k)) ≡ row_done (stored figures k (row_figure v k)) k
  unfolding row_step accepted_in
  row_reads figures k h long past =
      let later = stored figures k (row_figure v k) in
      let f : field_of k + 1 ≡ filled (k + 1) = field_of_lem k h in
      let good : bad_at later (field_of k) ≡ false = bad_same later v (field_of k) (λ j l. fills figures k h long past j (omega arith)) ∙ fine (field_of k) (omega arith) in
      other_step_lem (InRow k) figures (line_text k (row_figure v k)) (row_begins_none k (row_figure v k) h)
      ∙ rw (line_says_figure k (row_figure v k) h (row_within k h), not_bad_fine later (field_of k) (omega arith) good)

  -- a sheet's lines from a row on
  module _ (all : length v ≡ field_count) where
    rows_read : (m k : ℕ) (figures : List ℕ) (rest : List (List ℕ)) → k + suc m ≡ count → length figures ≡ field_count → Agree (filled k) figures v
        → Brings (InRow k) figures (row_lines v k (suc m) ++ rest) v rest
    rows_read zero k figures rest e long past =
        let h : k < count = omega arith in
        let n = row_figure v k in
        let same : stored figures k n ≡ v = ext_get_or 0 (stored figures k n) v (stored_length figures k n h ∙ long ∙ sym all)
        (λ j l. fills figures k h long past j (omega (arith, stored_length figures k n h))) in
        rw (first_row v k 0, no_row v (k + 1))
        (last_line (InRow k) figures (line_text k n) v rest (row_reads figures k h long past ∙ rw (le-ltb k 27 (omega arith), same)))
    rows_read (suc m) k figures rest e long past =
        let h : k < count = omega arith in
        let n = row_figure v k in
        rw (first_row v k (suc m))
        (more_lines (InRow k) figures (line_text k n) v rest (InRow (k + 1)) (stored figures k n) (row_lines v (k + 1) (suc m) ++ rest)
        (row_reads figures k h long past ∙ rw (lt-ltb k 27 (omega arith)))
        (rows_read m (k + 1) (stored figures k n) rest (omega arith) (stored_length figures k n h ∙ long) (fills figures k h long past)))

    -- a whole sheet with the line that begins it
    sheet_read : (figures title : List ℕ) (rest : List (List ℕ)) → length figures ≡ field_count → begins_sheet title ≡ true
        → Brings Between figures (title ∷ (sheet_lines v ++ rest)) v rest
    unfolding sheet_lines
    sheet_read figures title rest long begins =
        more_lines Between figures title v rest (InRow 0) figures (sheet_lines v ++ rest) (begin_step_lem Between figures title begins)
        (rows_read 27 0 figures rest refl long (λ j l. absurd (omega arith)))

-- the lines of sheets bring no fault, and those sheets
pub complete : (sheets : List Titled) → Each Proper sheets → (figures : List ℕ) → length figures ≡ field_count
    → Clear Between figures (lines_of_all sheets) × (sheets_from Between figures (lines_of_all sheets) ≡ figures_of_all sheets)
unfolding lines_of_all
complete [] p figures long = (tt, refl)
complete (sheet ∷ sheets) p figures long =
    let v = sheet.figures in
    let fine = p.0.figures_fine in
    let b = sheet_read v (first_none_bad v fine.none_bad) fine.each_field figures sheet.title (lines_of_all sheets) long p.0.begins in
    let r = complete sheets p.1 v fine.each_field in
    (b.clear r.0, b.sheets ∙ ap (λ (l : List (List ℕ)). v ∷ l) r.1)

-- a text that is typed as some sheets has no fault, and these are its sheets
pub complete_text : (text : List ℕ) (sheets : List Titled) → TypedAs text sheets → Faultless text × (sheets_of (all_of text) ≡ figures_of_all sheets)
complete_text text sheets t =
    let c = complete sheets t.each_proper beginning.figures refl in
    ((faultless_clear text).1 (rw t.lines c.0), sheets_of_text text ∙ rw t.lines c.1)
