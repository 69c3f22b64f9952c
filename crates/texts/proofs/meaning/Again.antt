-- Bytes shown as text and typed again: the text of sheets is typed as those sheets, and that of other bytes has a fault.
use Rattle.std.specs.Prelude.{Result, Ok, Err}
use mathlib.Core.Path.{◌≡◌, refl, ap, sym, ◌∙◌}
use mathlib.Core.Bool.{Bool, true, false}
use mathlib.Core.List.Memᴰ
use mathlib.Core.List.{List, [], ◌∷◌, ◌++◌, map, flatten, append_assoc, append-nil, Memᴰ}
use mathlib.Core.Logic.{◌↔◌}
use Prim.Native.Nat.{ℕ, zero, suc, ◌+◌, ◌≤◌, ◌<◌}
use native.Mathlib.Omega.{arith}
use borrow.Author.Tests.{ne_eqb}
use lib.Dec.{T}
use lib.ListN.{length}
use Rattle.laws.proofs.Each.{each_append, each_implied}
use Rattle.laws.proofs.Every.{every_at}
use Rattle.laws.proofs.Never.{never}
use Rattle.laws.specs.Each.{Each, ◌&◌}
use Rattle.laws.specs.Every.{every}
use Rattle.lines.specs.Decimals.{count_text}
use Rattle.lines.proofs.decimals.Texts.{DigitByte, count_bytes}
use Rattle.sheet.specs.Packing.{Bytes}
use Rattle.sheet.specs.Refusals.{read_fault_number, read_fault_field}
use Rattle.sheet.specs.Sheets.{figures_of, read_of, Valid}
use Rattle.sheet.specs.declared.ReadFault.{ReadFault}
use Rattle.sheet.specs.declared.Sheet.{Sheet}
use Rattle.sheet.proofs.Promises.{read_is_valid}
use Rattle.sheet.proofs.sheets.OneWriting.{read_valid}
use Rattle.typed.specs.Rows.{bytes_of, count, rows, row_at}
use Rattle.typed.specs.Lines.{token, name_text, line_text}
use Rattle.typed.specs.Reading.{stands, named}
use Rattle.typed.proofs.Promises.{has_own_name}
use Rattle.typed.proofs.meaning.Fronts.{differs, differ_stands}
use Rattle.texts.specs.Cutting.{newline, space, begins_sheet}
use Rattle.texts.specs.Shown.{row_figure, row_line, rows_text, refused_text, read_text, shown_text, sheet_text}
use Rattle.texts.specs.Texts.{all_of}
use Rattle.texts.specs.Typed.{kept, sheets_of, Faultless, typed_bytes, row_lines, sheet_lines, Titled, lines_of_all, figures_of_all, SheetFigures, Proper, TypedAs, text_of, LineKind, begins, row, OneLine, IsSheet, shown_all}
use Rattle.texts.proofs.meaning.Complete.{complete_text}
use Rattle.texts.proofs.meaning.Names.{title_begins}
use Rattle.texts.proofs.meaning.Places.{its_bytes, bytes_of_text}
use Rattle.texts.proofs.meaning.Wholes.{each_line}
use Rattle.texts.proofs.meaning.Writing.{Stays, kept_of_text, printed_line, letter_kept, sheet_stays, title_kept}

-- the line that begins the sheet of an index
abbrev pub title_of : ℕ → List ℕ
title_of index = bytes_of "sheet " ++ count_text index

-- the line of bytes that are no sheet
abbrev pub refused_line : ReadFault → List ℕ
refused_line fault = ((bytes_of "refused " ++ count_text (read_fault_number fault)) ++ space ∷ []) ++ count_text (read_fault_field fault)

-- the lines of what bytes are read as
abbrev pub lines_read : Result Sheet ReadFault → List (List ℕ)
lines_read (Ok s) = sheet_lines (figures_of s)
lines_read (Err fault) = refused_line fault ∷ []

abbrev pub lines_shown : ℕ → List (List ℕ) → List (List ℕ)
lines_shown index [] = []
lines_shown index (bytes ∷ rest) = title_of index ∷ (lines_read (read_of bytes) ++ lines_shown (index + 1) rest)

-- a text of lines, part by part
text_append : (first second : List (List ℕ)) → text_of (first ++ second) ≡ text_of first ++ text_of second
unfolding text_of
text_append [] second = refl
text_append (line ∷ first) second = rw (text_append first second) (sym (append_assoc line (newline ∷ text_of first) (text_of second)))

rows_text_lem : (figures : List ℕ) (i m : ℕ) → rows_text figures i m ≡ text_of (row_lines figures i m)
unfolding rows_text row_line row_lines text_of
rows_text_lem figures i zero = refl
rows_text_lem figures i (suc m) =
    append_assoc (line_text i (row_figure figures i)) (newline ∷ []) (rows_text figures (i + 1) m)
    ∙ ap (λ (l : List ℕ). line_text i (row_figure figures i) ++ (newline ∷ l)) (rows_text_lem figures (i + 1) m)

read_text_lem : (r : Result Sheet ReadFault) → read_text r ≡ text_of (lines_read r)
unfolding sheet_lines refused_text text_of
read_text_lem (Ok s) = rows_text_lem (figures_of s) 0 count
read_text_lem (Err fault) = refl

-- a line with its newline, and two parts behind it
with_newline : (line first second : List ℕ) → ((line ++ newline ∷ []) ++ first) ++ second ≡ line ++ (newline ∷ (first ++ second))
with_newline line first second = append_assoc (line ++ newline ∷ []) first second ∙ append_assoc line (newline ∷ []) (first ++ second)

-- the shown text is that of its lines
shown_lines : (index : ℕ) (all : List (List ℕ)) → shown_all index all ≡ text_of (lines_shown index all)
unfolding shown_all shown_text text_of
shown_lines index [] = refl
shown_lines index (bytes ∷ rest) =
    rw (shown_lines (index + 1) rest, read_text_lem (read_of bytes), text_append (lines_read (read_of bytes)) (lines_shown (index + 1) rest))
    (with_newline (title_of index) (text_of (lines_read (read_of bytes))) (text_of (lines_shown (index + 1) rest)))

-- each of them stays as it is
digits_printed : (n : ℕ) → Each (λ (b : ℕ). 32 ≤ b) (count_text n)
digits_printed n = each_implied DigitByte (λ (b : ℕ). 32 ≤ b) (λ b d. omega (arith, d.0)) (count_text n) (count_bytes n)

title_printed : (index : ℕ) → Each (λ (b : ℕ). 32 ≤ b) (title_of index)
title_printed index =
    each_append (λ (b : ℕ). 32 ≤ b) (bytes_of "sheet ") (count_text index)
    (omega arith & omega arith & omega arith & omega arith & omega arith & omega arith & tt) (digits_printed index)

title_one_line : (index : ℕ) → OneLine (title_of index)
title_one_line index = printed_line (title_of index) (title_printed index)

title_stays : (index : ℕ) → Stays (title_of index)
title_stays index = record { one = title_one_line index; not_passed = title_kept (title_of index) (title_begins (count_text index)) }

module _ (fault : ReadFault) where
  refused_printed : Each (λ (b : ℕ). 32 ≤ b) (refused_line fault)
  refused_printed =
      each_append (λ (b : ℕ). 32 ≤ b) ((bytes_of "refused " ++ count_text (read_fault_number fault)) ++ space ∷ []) (count_text (read_fault_field fault))
      (each_append (λ (b : ℕ). 32 ≤ b) (bytes_of "refused " ++ count_text (read_fault_number fault)) (space ∷ [])
      (each_append (λ (b : ℕ). 32 ≤ b) (bytes_of "refused ") (count_text (read_fault_number fault))
      (omega arith & omega arith & omega arith & omega arith & omega arith & omega arith & omega arith & omega arith & tt)
      (digits_printed (read_fault_number fault)))
      (omega arith & tt))
      (digits_printed (read_fault_field fault))

  refused_stays : Stays (refused_line fault)
  refused_stays =
      record { one = printed_line (refused_line fault) refused_printed; not_passed = letter_kept (refused_line fault) (omega arith) (omega arith) }

  -- it begins no sheet, and has no row's name
  refused_begins_none : begins_sheet (refused_line fault) ≡ false
  unfolding begins_sheet stands
  refused_begins_none = rw (ne_eqb (length (refused_line fault)) 5 (λ (e : length (refused_line fault) ≡ 5). omega arith))

-- no row has a name that begins so
no_refused : ℕ → Bool
no_refused i = differs (name_text (row_at i)) (bytes_of "refused ")

no_refused_test : T (every count no_refused)
unfolding no_refused differs name_text token row_at rows
no_refused_test = tt

refused_nameless : (fault : ReadFault) (i : ℕ) → i < count → named (refused_line fault) i ≡ false
unfolding named no_refused
refused_nameless fault i h =
    let rest = (count_text (read_fault_number fault) ++ space ∷ []) ++ count_text (read_fault_field fault) in
    differ_stands (name_text (row_at i)) (bytes_of "refused ") rest (every_at count no_refused no_refused_test i h)

read_stays : (r : Result Sheet ReadFault) → Each Stays (lines_read r)
read_stays (Ok s) = sheet_stays (figures_of s)
read_stays (Err fault) = (refused_stays fault, tt)

shown_stay : (index : ℕ) (all : List (List ℕ)) → Each Stays (lines_shown index all)
shown_stay index [] = tt
shown_stay index (bytes ∷ rest) = (
  title_stays index,
  each_append Stays (lines_read (read_of bytes)) (lines_shown (index + 1) rest) (read_stays (read_of bytes)) (shown_stay (index + 1) rest),
)

-- so these are the kept lines of the shown text
kept_shown : (index : ℕ) (all : List (List ℕ)) → kept (shown_all index all) ≡ lines_shown index all
kept_shown index all = rw (shown_lines index all) (kept_of_text (lines_shown index all) (shown_stay index all))

-- bytes that are sheets, as typed sheets
abbrev pub titled_all : (index : ℕ) (all : List (List ℕ)) → Each IsSheet all → List Titled
titled_all index [] p = []
titled_all index (bytes ∷ rest) p = record { title = title_of index; figures = figures_of p.0.0 } ∷ titled_all (index + 1) rest p.1

shown_as_typed : (index : ℕ) (all : List (List ℕ)) (p : Each IsSheet all) → lines_shown index all ≡ lines_of_all (titled_all index all p)
unfolding lines_of_all
shown_as_typed index [] p = refl
shown_as_typed index (bytes ∷ rest) p = rw (p.0.1, shown_as_typed (index + 1) rest p.1)

-- the figures of a sheet that was read
pub read_fine : (bytes : List ℕ) (s : Sheet) → read_of bytes ≡ Ok s → SheetFigures (figures_of s)
unfolding figures_of Valid
read_fine bytes s e = record { each_field = refl; none_bad = read_valid bytes s e }

each_read_fine : (index : ℕ) (all : List (List ℕ)) (p : Each IsSheet all) → Each Proper (titled_all index all p)
each_read_fine index [] p = tt
each_read_fine index (bytes ∷ rest) p = (
  record { begins = title_begins (count_text index); figures_fine = read_fine bytes p.0.0 p.0.1 },
  each_read_fine (index + 1) rest p.1,
)

-- their text is typed as those sheets
shown_typed_as : (index : ℕ) (all : List (List ℕ)) (p : Each IsSheet all) → TypedAs (shown_all index all) (titled_all index all p)
shown_typed_as index all p = record { lines = kept_shown index all ∙ shown_as_typed index all p; each_proper = each_read_fine index all p }

-- and its bytes are those that were shown
own_bytes : (bytes : List ℕ) (s : Sheet) → Bytes bytes → read_of bytes ≡ Ok s → sheet_text (figures_of s) ≡ bytes
own_bytes bytes s small e = its_bytes (figures_of s) (read_fine bytes s e) ∙ sym (read_is_valid bytes s small e).writing

all_bytes : (index : ℕ) (all : List (List ℕ)) (p : Each IsSheet all) → Each Bytes all
    → flatten (map sheet_text (figures_of_all (titled_all index all p))) ≡ flatten all
unfolding flatten
all_bytes index [] p q = refl
all_bytes index (bytes ∷ rest) p q = rw (own_bytes bytes p.0.0 q.0 p.0.1, all_bytes (index + 1) rest p.1 q.1)

pub typed_again : (index : ℕ) (all : List (List ℕ)) → Each IsSheet all → Each Bytes all → typed_bytes (shown_all index all) ≡ flatten all
typed_again index all p q =
    let c = complete_text (shown_all index all) (titled_all index all p) (shown_typed_as index all p) in
    bytes_of_text (shown_all index all) c.0 ∙ ap (λ (s : List (List ℕ)). flatten (map sheet_text s)) c.1 ∙ all_bytes index all p q

-- the line of bytes that are no sheet is in no text without a fault
no_refused_line : (text : List ℕ) (fault : ReadFault) → Faultless text → Memᴰ (refused_line fault) (kept text) → ⊥
no_refused_line text fault none m = go (each_line text none (refused_line fault) m)
  where
    go : LineKind (refused_line fault) → ⊥
    go (begins e) = never (cc (refused_begins_none fault))
    go (row i n h e) =
        let own : named (refused_line fault) i ≡ true = rw e (has_own_name i n) in
        never (cc (refused_nameless fault i h))

each_a_sheet : (index : ℕ) (all : List (List ℕ)) → ((fault : ReadFault) → Memᴰ (refused_line fault) (lines_shown index all) → ⊥) → Each IsSheet all
each_a_sheet index [] none = tt
each_a_sheet index (bytes ∷ rest) none = (
  go (read_of bytes) refl none,
  each_a_sheet (index + 1) rest (λ fault m. none fault (Memᴰ.tail (Memᴰ.append_right (lines_read (read_of bytes)) m))),
)
  where
    go : (r : Result Sheet ReadFault) → read_of bytes ≡ r
        → ((fault : ReadFault) → Memᴰ (refused_line fault) (title_of index ∷ (lines_read r ++ lines_shown (index + 1) rest)) → ⊥)
        → IsSheet bytes
    go (Ok s) e none = (s, e)
    go (Err fault) e none = absurd (none fault (Memᴰ.tail (Memᴰ.head refl)))

-- so the shown text has no fault exactly when all bytes were sheets
pub shown_exactly : (index : ℕ) (all : List (List ℕ)) → Faultless (shown_all index all) ↔ Each IsSheet all
shown_exactly index all = (
  (λ none. each_a_sheet index all (λ fault m. no_refused_line (shown_all index all) fault none (rw (kept_shown index all) m))),
  (λ p. (complete_text (shown_all index all) (titled_all index all p) (shown_typed_as index all p)).0),
)

-- one string of bytes
one_shown : (index : ℕ) (bytes : List ℕ) → shown_all index (bytes ∷ []) ≡ shown_text index bytes
unfolding shown_all
one_shown index bytes = append-nil (shown_text index bytes)

module _ (index : ℕ) (bytes : List ℕ) where
  pub one_typed : (s : Sheet) → read_of bytes ≡ Ok s → Faultless (shown_text index bytes) × (sheets_of (all_of (shown_text index bytes)) ≡ figures_of s ∷ [])
  one_typed s e =
      rw (← one_shown index bytes)
      (complete_text (shown_all index (bytes ∷ [])) (titled_all index (bytes ∷ []) ((s, e), tt)) (shown_typed_as index (bytes ∷ []) ((s, e), tt)))

  pub one_again : IsSheet bytes → Bytes bytes → typed_bytes (shown_text index bytes) ≡ bytes
  unfolding flatten
  one_again p small = rw (← one_shown index bytes) (typed_again index (bytes ∷ []) (p, tt) (small, tt) ∙ append-nil bytes)

  pub one_refused : (fault : ReadFault) → read_of bytes ≡ Err fault → Faultless (shown_text index bytes) → ⊥
  one_refused fault e none =
      let p = ((shown_exactly index (bytes ∷ [])).0 (rw (one_shown index bytes) none)).0 in
      let good = p.1 in
      never cc
