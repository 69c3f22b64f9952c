-- Where a sheet's rows stand among the lines of a text, and its figures among the bytes.
use Rattle.std.specs.Prelude.{Ok}
use mathlib.Core.Path.{◌≡◌, refl, ap, ◌∙◌}
use mathlib.Core.Bool.{Bool, true, false}
use mathlib.Core.List.{List, [], ◌∷◌, ◌++◌, map, flatten, Memᴰ}
use Prim.Native.Nat.{ℕ, zero, suc, ◌+◌, ◌*◌, ◌<◌}
use native.Mathlib.Omega.{arith}
use borrow.Author.Tests.{eqb-true, eqb-false}
use lib.Dec.{eqb}
use lib.ListN.{length, get_or, take, drop, length-append}
use lib.Seq.{take_at, drop-drop, drop_at, get_or-append-add}
use lib.ListN.{get_or-append}
use Rattle.laws.proofs.Never.{never}
use Rattle.laws.specs.Each.{Each}
use Rattle.sheet.specs.Fields.{first_bad}
use Rattle.sheet.specs.Packing.{size, bytes_of as packed_of}
use Rattle.sheet.specs.Sheets.{sheet_of, figures_of, sheet_from, read_of, Valid}
use Rattle.sheet.proofs.Promises.{figures_come_back}
use Rattle.sheet.proofs.sheets.OneWriting.{bytes_length, read_written}
use Rattle.typed.specs.Rows.{count}
use Rattle.typed.specs.Lines.{line_text}
use Rattle.typed.specs.Reading.{named}
use Rattle.typed.proofs.Promises.{has_no_other_name}
use Rattle.texts.specs.Cutting.{begins_sheet}
use Rattle.texts.specs.Shown.{row_figure, sheet_text}
use Rattle.texts.specs.Texts.{all_of}
use Rattle.texts.specs.Typed.{kept, sheets_of, Faultless, typed_bytes, row_lines, sheet_lines, Titled, lines_of_all, figures_of_all, SheetFigures, Proper, TypedAs, TypedAndRead}
use Rattle.texts.proofs.meaning.Sound.{sound_text}

-- the sheet of figures, read from their bytes
module _ (figures : List ℕ) (fine : SheetFigures figures) where
  made : sheet_from figures ≡ Ok (sheet_of figures)
  unfolding sheet_from
  made = rw fine.none_bad

  pub its_figures : figures_of (sheet_of figures) ≡ figures
  its_figures = figures_come_back figures (sheet_of figures) fine.each_field made

  pub its_bytes : sheet_text figures ≡ packed_of figures
  unfolding sheet_text
  its_bytes = rw fine.none_bad

  pub its_length : length (sheet_text figures) ≡ size
  its_length = rw its_bytes (bytes_length figures)

  pub read_again : read_of (sheet_text figures) ≡ Ok (sheet_of figures)
  unfolding Valid
  read_again =
      let valid : first_bad (figures_of (sheet_of figures)) ≡ 0 = rw its_figures fine.none_bad in
      rw its_bytes (rw its_figures at (read_written (sheet_of figures) valid))

-- the rows of a sheet among its lines
rows_length : (figures : List ℕ) (k m : ℕ) → length (row_lines figures k m) ≡ m
unfolding row_lines
rows_length figures k zero = refl
rows_length figures k (suc m) = ap suc (rows_length figures (k + 1) m)

row_at : (figures : List ℕ) (k m i : ℕ) → i < m → get_or (row_lines figures k m) i [] ≡ line_text (k + i) (row_figure figures (k + i))
unfolding row_lines
row_at figures k zero i h = absurd (omega arith)
row_at figures k (suc m) zero h = let e : k + 0 ≡ k = omega arith in rw e
row_at figures k (suc m) (suc i) h = let e : k + suc i ≡ k + 1 + i = omega arith in rw e (row_at figures (k + 1) m i (omega arith))

pub lines_length : (figures : List ℕ) → length (sheet_lines figures) ≡ count
unfolding sheet_lines
lines_length figures = rows_length figures 0 count

line_at : (figures : List ℕ) (i : ℕ) → i < count → get_or (sheet_lines figures) i [] ≡ line_text i (row_figure figures i)
unfolding sheet_lines
line_at figures i h = let e : 0 + i ≡ i = omega arith in rw e at (row_at figures 0 count i h)

-- the line that begins a sheet, and its rows, among the lines of all
module _ (sheet : Titled) (sheets : List Titled) where
  line_in_first : (i : ℕ) → i < count → get_or (lines_of_all (sheet ∷ sheets)) (1 + i) [] ≡ line_text i (row_figure sheet.figures i)
  unfolding lines_of_all
  line_in_first i h =
      let e : 1 + i ≡ suc i = omega arith in
      rw e (get_or-append (sheet_lines sheet.figures) (lines_of_all sheets) [] i (omega (arith, lines_length sheet.figures))
      ∙ line_at sheet.figures i h)

  line_behind_first : (n : ℕ) → get_or (lines_of_all (sheet ∷ sheets)) (29 + n) [] ≡ get_or (lines_of_all sheets) n []
  unfolding lines_of_all
  line_behind_first n =
      let e : 29 + n ≡ suc (length (sheet_lines sheet.figures) + n) = omega (arith, lines_length sheet.figures) in
      rw e (get_or-append-add (sheet_lines sheet.figures) (lines_of_all sheets) n [])

  first_title : get_or (lines_of_all (sheet ∷ sheets)) 0 [] ≡ sheet.title
  unfolding lines_of_all
  first_title = refl

row_of_sheet : (sheets : List Titled) (j i : ℕ) → j < length sheets → i < count
    → get_or (lines_of_all sheets) (29 * j + 1 + i) [] ≡ line_text i (row_figure (get_or (figures_of_all sheets) j []) i)
row_of_sheet [] j i h l = absurd (omega arith)
row_of_sheet (sheet ∷ sheets) zero i h l = line_in_first sheet sheets i l
row_of_sheet (sheet ∷ sheets) (suc j) i h l =
    let e : 29 * suc j + 1 + i ≡ 29 + (29 * j + 1 + i) = omega arith in
    rw e (line_behind_first sheet sheets (29 * j + 1 + i) ∙ row_of_sheet sheets j i (omega arith) l)

title_of_sheet : (sheets : List Titled) → Each Proper sheets → (j : ℕ) → j < length sheets → begins_sheet (get_or (lines_of_all sheets) (29 * j) []) ≡ true
title_of_sheet [] p j h = absurd (omega arith)
title_of_sheet (sheet ∷ sheets) p zero h = rw (first_title sheet sheets) p.0.begins
title_of_sheet (sheet ∷ sheets) p (suc j) h =
    let e : 29 * suc j ≡ 29 + 29 * j = omega arith in
    rw (e, line_behind_first sheet sheets (29 * j)) (title_of_sheet sheets p.1 j (omega arith))

-- the bytes of a sheet among the bytes of all
bytes_of_sheet : (sheets : List Titled) → Each Proper sheets → (j : ℕ) → j < length sheets
    → take size (drop (28 * j) (flatten (map sheet_text (figures_of_all sheets)))) ≡ sheet_text (get_or (figures_of_all sheets) j [])
unfolding flatten
bytes_of_sheet [] p j h = absurd (omega arith)
bytes_of_sheet (sheet ∷ sheets) p zero h = take_at (sheet_text sheet.figures) _ size (its_length sheet.figures p.0.figures_fine)
bytes_of_sheet (sheet ∷ sheets) p (suc j) h =
    let e : 28 * suc j ≡ 28 + 28 * j = omega arith in
    let rest = flatten (map sheet_text (figures_of_all sheets)) in
    let past : drop 28 (sheet_text sheet.figures ++ rest) ≡ rest = drop_at (sheet_text sheet.figures) rest size (its_length sheet.figures p.0.figures_fine) in
    rw (e, ← drop-drop (28 * j) 28 (sheet_text sheet.figures ++ rest), past) (bytes_of_sheet sheets p.1 j (omega arith))

-- the bytes of a text without a fault are those of its sheets
pub bytes_of_text : (text : List ℕ) → Faultless text → typed_bytes text ≡ flatten (map sheet_text (sheets_of (all_of text)))
unfolding typed_bytes Faultless
bytes_of_text text none = rw none

-- how many lines and bytes there are
lines_of_all_lem : (sheets : List Titled) → length (lines_of_all sheets) ≡ 29 * length sheets
unfolding lines_of_all
lines_of_all_lem [] = refl
lines_of_all_lem (sheet ∷ sheets) =
    omega (arith, length-append (sheet_lines sheet.figures) (lines_of_all sheets), lines_length sheet.figures, lines_of_all_lem sheets)

bytes_of_all : (sheets : List Titled) → Each Proper sheets → length (flatten (map sheet_text (figures_of_all sheets))) ≡ 28 * length sheets
unfolding flatten
bytes_of_all [] p = refl
bytes_of_all (sheet ∷ sheets) p =
    omega (
      arith,
      length-append (sheet_text sheet.figures) (flatten (map sheet_text (figures_of_all sheets))),
      its_length sheet.figures p.0.figures_fine,
      bytes_of_all sheets p.1,
    )

as_many : (sheets : List Titled) → length (figures_of_all sheets) ≡ length sheets
as_many [] = refl
as_many (sheet ∷ sheets) = ap suc (as_many sheets)

-- what holds of each sheet holds of the one at a place
at_place : (sheets : List Titled) → Each Proper sheets → (j : ℕ) → j < length sheets → SheetFigures (get_or (figures_of_all sheets) j [])
at_place [] p j h = absurd (omega arith)
at_place (sheet ∷ sheets) p zero h = p.0.figures_fine
at_place (sheet ∷ sheets) p (suc j) h = at_place sheets p.1 j (omega arith)

-- a text that is typed as some sheets: each of them as its bytes are read
module _ (text : List ℕ) (none : Faultless text) (sheets : List Titled) (t : TypedAs text sheets) (found : sheets_of (all_of text) ≡ figures_of_all sheets) where
  typed_as_read : (j : ℕ) → j < length (sheets_of (all_of text)) → TypedAndRead text j
  typed_as_read j h =
      let l : j < length sheets = omega (arith, ap length found, as_many sheets) in
      let v = get_or (figures_of_all sheets) j [] in
      let fine = at_place sheets t.each_proper j l in
      let bytes : typed_bytes text ≡ flatten (map sheet_text (figures_of_all sheets)) = bytes_of_text text none ∙ ap (λ (s : List (List ℕ)). flatten (map sheet_text s)) found in
      record {
        sheet = sheet_of v;
        read = rw (bytes, bytes_of_sheet sheets t.each_proper j l) (read_again v fine);
        its_figures = rw found (its_figures v fine);
        its_title = rw t.lines (title_of_sheet sheets t.each_proper j l);
        its_rows = λ i m. rw (t.lines, its_figures v fine) (row_of_sheet sheets j i l m);
      }

  sizes : (length (kept text) ≡ 29 * length (sheets_of (all_of text))) × (length (typed_bytes text) ≡ 28 * length (sheets_of (all_of text)))
  sizes =
      let bytes : typed_bytes text ≡ flatten (map sheet_text (figures_of_all sheets)) = bytes_of_text text none ∙ ap (λ (s : List (List ℕ)). flatten (map sheet_text s)) found in
      (rw (t.lines, found, as_many sheets) (lines_of_all_lem sheets), rw (bytes, found, as_many sheets) (bytes_of_all sheets t.each_proper))

pub typed_and_read : (text : List ℕ) → Faultless text → (j : ℕ) → j < length (sheets_of (all_of text)) → TypedAndRead text j
typed_and_read text none = let s = sound_text text none in typed_as_read text none s.0 s.1 s.2

pub text_sizes : (text : List ℕ) → Faultless text
    → (length (kept text) ≡ 29 * length (sheets_of (all_of text))) × (length (typed_bytes text) ≡ 28 * length (sheets_of (all_of text)))
text_sizes text none = let s = sound_text text none in sizes text none s.0 s.1 s.2

-- a line of a sheet is that of some row
pub rows_member : (figures : List ℕ) (k m : ℕ) (line : List ℕ) → Memᴰ line (row_lines figures k m)
    → (i : ℕ) × (i < k + m) × (line ≡ line_text i (row_figure figures i))
unfolding row_lines
rows_member figures k zero line in_rest = elim in_rest [ ]
rows_member figures k (suc m) line (Memᴰ.head e) = (k, omega arith, e)
rows_member figures k (suc m) line (Memᴰ.tail in_rest) =
    let r = rows_member figures (k + 1) m line in_rest in (r.0, omega (arith, r.1), r.2)

-- the line of a sheet that has a row's name is that of the row's figure
pub named_line : (figures line : List ℕ) (i : ℕ) → i < count → Memᴰ line (sheet_lines figures) → named line i ≡ true
    → line ≡ line_text i (row_figure figures i)
unfolding sheet_lines
named_line figures line i h in_lines has = go (rows_member figures 0 count line in_lines)
  where
    go : (j : ℕ) × (j < 0 + count) × (line ≡ line_text j (row_figure figures j)) → line ≡ line_text i (row_figure figures i)
    go (j, l, e) = same (eqb j i) refl
      where
        same : (b : Bool) → eqb j i ≡ b → line ≡ line_text i (row_figure figures i)
        same true p = let q : j ≡ i = eqb-true j i p in rw q at e
        same false p =
            let other = has_no_other_name j i (row_figure figures j) (omega arith) h (λ (q : j ≡ i). eqb-false j i p q) in
            let named_so : named (line_text j (row_figure figures j)) i ≡ true = rw (← e) has in
            never cc
