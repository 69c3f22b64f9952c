-- A text written line by line keeps its lines: the lines of sheets, so written, are typed as those sheets.
use mathlib.Core.Path.{◌≡◌, refl, ap, ◌∙◌}
use mathlib.Core.Bool.{Bool, true, false}
use mathlib.Core.List.{List, [], ◌∷◌, ◌++◌}
use mathlib.Core.Logic.{◌≢◌}
use Prim.Native.Nat.{ℕ, zero, suc, ◌+◌, ◌≤◌, ◌<◌}
use native.Mathlib.Omega.{arith}
use borrow.Author.Tests.{ne_eqb}
use lib.ListN.{length, get_or}
use Rattle.laws.proofs.Each.{each_append, each_implied}
use Rattle.laws.specs.Choice.{ifᵇ◌then◌else◌, ◌=ᵇ◌}
use Rattle.laws.specs.Each.{Each}
use Rattle.typed.specs.Rows.{bytes_of, count}
use Rattle.typed.specs.Lines.{line_text}
use Rattle.typed.specs.Reading.{stands}
use Rattle.typed.proofs.Promises.{line_has_no_newline, line_not_empty, letter_first}
use Rattle.typed.proofs.meaning.Fronts.{stands_front}
use Rattle.texts.specs.Cutting.{newline, return, hash, lines_of, bare, blank, passed_over, begins_sheet}
use Rattle.texts.specs.Shown.{row_figure}
use Rattle.texts.specs.Typed.{kept_of, kept, row_lines, sheet_lines, Titled, lines_of_all, Proper, TypedAs, text_of, OneLine}

-- a line, its newline and what stands behind it
front_line : (line rest : List ℕ) → Each (λ (b : ℕ). b ≢ newline) line → lines_of (line ++ (newline ∷ rest)) ≡ line ∷ lines_of rest
unfolding lines_of
front_line [] rest p = refl
front_line (b ∷ line) rest p = rw (ne_eqb b newline p.0, front_line line rest p.1)

pub lines_of_text : (lines : List (List ℕ)) → Each OneLine lines → lines_of (text_of lines) ≡ lines
unfolding text_of lines_of
lines_of_text [] p = refl
lines_of_text (line ∷ lines) p =
    front_line line (text_of lines) p.0.no_newline ∙ ap (λ (l : List (List ℕ)). line ∷ l) (lines_of_text lines p.1)

-- a line that is kept as it stands
pub record Stays (line : List ℕ) : Type 0 where
  pub one : OneLine line
  pub not_passed : passed_over line ≡ false

all_kept : (lines : List (List ℕ)) → Each Stays lines → kept_of lines ≡ lines
unfolding kept_of
all_kept [] p = refl
all_kept (line ∷ lines) p = rw (p.0.one.no_return, p.0.not_passed, all_kept lines p.1)

pub kept_of_text : (lines : List (List ℕ)) → Each Stays lines → kept (text_of lines) ≡ lines
unfolding kept
kept_of_text lines p = rw (lines_of_text lines (each_implied Stays OneLine (λ line s. s.one) lines p)) (all_kept lines p)

-- a line of bytes from the space on
bare_printed : (line : List ℕ) → Each (λ (b : ℕ). 32 ≤ b) line → bare line ≡ line
unfolding bare
bare_printed [] p = refl
bare_printed (b ∷ []) p = rw (ne_eqb b return (λ (e : b ≡ return). omega (arith, p.0)))
bare_printed (b ∷ c ∷ line) p = ap (λ (l : List ℕ). b ∷ l) (bare_printed (c ∷ line) p.1)

pub printed_line : (line : List ℕ) → Each (λ (b : ℕ). 32 ≤ b) line → OneLine line
printed_line line p =
    record {
      no_newline = each_implied (λ (b : ℕ). 32 ≤ b) (λ (b : ℕ). b ≢ newline) (λ b h (e : b ≡ newline). omega arith) line p;
      no_return = bare_printed line p;
    }

-- a line that begins with a letter is not passed over
pub letter_kept : (line : List ℕ) → 0 < length line → 97 ≤ get_or line 0 0 → passed_over line ≡ false
unfolding passed_over blank
letter_kept [] l h = absurd (omega arith)
letter_kept (b ∷ line) l h =
    rw (ne_eqb b hash (λ (e : b ≡ hash). omega arith), ne_eqb b 32 (λ (e : b ≡ 32). omega arith), ne_eqb b 9 (λ (e : b ≡ 9). omega arith))

-- so a row's line stays
row_stays : (i n : ℕ) → i < count → Stays (line_text i n)
row_stays i n h =
    record { one = printed_line (line_text i n) (line_has_no_newline i n h); not_passed = letter_kept (line_text i n) (line_not_empty i n) (letter_first i n h).0 }

rows_stay : (figures : List ℕ) (k m : ℕ) → k + m ≤ count → Each Stays (row_lines figures k m)
unfolding row_lines
rows_stay figures k zero h = tt
rows_stay figures k (suc m) h = (row_stays k (row_figure figures k) (omega arith), rows_stay figures (k + 1) m (omega arith))

pub sheet_stays : (figures : List ℕ) → Each Stays (sheet_lines figures)
unfolding sheet_lines
sheet_stays figures = rows_stay figures 0 count (omega arith)

-- a line that begins a sheet is not passed over
pub title_kept : (title : List ℕ) → begins_sheet title ≡ true → passed_over title ≡ false
unfolding begins_sheet
title_kept title e = go (length title =ᵇ 5) e
  where
    go : (b : Bool) → (ifᵇ b then stands (bytes_of "sheet") title else stands (bytes_of "sheet ") title) ≡ true → passed_over title ≡ false
    go true e = rw (stands_front (bytes_of "sheet") title e) (letter_kept _ (omega arith) (omega arith))
    go false e = rw (stands_front (bytes_of "sheet ") title e) (letter_kept _ (omega arith) (omega arith))

-- the lines of sheets
sheets_stay : (sheets : List Titled) → Each Proper sheets → Each (λ s. OneLine s.title) sheets → Each Stays (lines_of_all sheets)
unfolding lines_of_all
sheets_stay [] p q = tt
sheets_stay (sheet ∷ sheets) p q = (
  record { one = q.0; not_passed = title_kept sheet.title p.0.begins },
  each_append Stays (sheet_lines sheet.figures) (lines_of_all sheets) (sheet_stays sheet.figures) (sheets_stay sheets p.1 q.1),
)

-- written line by line, they are typed as those sheets
pub written_typed : (sheets : List Titled) → Each Proper sheets → Each (λ s. OneLine s.title) sheets → TypedAs (text_of (lines_of_all sheets)) sheets
written_typed sheets p q = record { lines = kept_of_text (lines_of_all sheets) (sheets_stay sheets p q); each_proper = p }
