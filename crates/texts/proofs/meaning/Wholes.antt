-- A whole text: it has no fault exactly when it is typed as some sheets, and it is so as one list of sheets only.
use mathlib.Core.Path.{◌≡◌, refl, ap, sym, ◌∙◌}
use mathlib.Core.List.Memᴰ
use mathlib.Core.List.{List, [], ◌∷◌, ◌++◌, Memᴰ}
use mathlib.Core.Logic.{◌↔◌, ◌⊎◌, inl, inr}
use Prim.Native.Nat.{ℕ, zero, suc, ◌+◌, ◌≤◌}
use native.Mathlib.Omega.{arith}
use lib.ListN.{length, drop}
use lib.Seq.{drop_at}
use Rattle.laws.proofs.Never.{never}
use Rattle.laws.specs.Each.{Each}
use Rattle.typed.specs.Rows.{count}
use Rattle.texts.specs.Shown.{row_figure}
use Rattle.texts.specs.Texts.{all_of}
use Rattle.texts.specs.Typed.{kept, beginnings, sheets_of, Faultless, row_lines, sheet_lines, Titled, lines_of_all, figures_of_all, SheetFigures, Proper, TypedAs, LineKind, begins, row}
use Rattle.texts.proofs.meaning.Complete.{row_begins_none, complete_text}
use Rattle.texts.proofs.meaning.Places.{lines_length, rows_member}
use Rattle.texts.proofs.meaning.Sound.{sound_text}

pub faultless_exactly : (text : List ℕ) → Faultless text ↔ ((sheets : List Titled) × TypedAs text sheets)
faultless_exactly text = (
  (λ none. let s = sound_text text none in (s.0, s.1)),
  (λ t. (complete_text text t.0 t.1).0),
)

each_of_all : (sheets : List Titled) → Each Proper sheets → Each SheetFigures (figures_of_all sheets)
each_of_all [] p = tt
each_of_all (sheet ∷ sheets) p = (p.0.figures_fine, each_of_all sheets p.1)

pub each_fine : (text : List ℕ) → Faultless text → Each SheetFigures (sheets_of (all_of text))
each_fine text none = let s = sound_text text none in rw s.2 (each_of_all s.0 s.1.each_proper)

titled_same : (a b : Titled) → a.title ≡ b.title → a.figures ≡ b.figures → a ≡ b
titled_same a b e f =
    ap (λ (t : List ℕ). titled t a.figures) e ∙ ap (λ (v : List ℕ). titled b.title v) f
  where
    titled : List ℕ → List ℕ → Titled
    titled t v = record { title = t; figures = v }

-- sheets with the same lines and the same figures are the same
same_sheets : (sheets others : List Titled) → lines_of_all sheets ≡ lines_of_all others → figures_of_all sheets ≡ figures_of_all others → sheets ≡ others
unfolding lines_of_all
same_sheets [] [] e f = refl
same_sheets [] (other ∷ others) e f = never cc
same_sheets (sheet ∷ sheets) [] e f = never cc
same_sheets (sheet ∷ sheets) (other ∷ others) e f =
    let figures : sheet.figures ≡ other.figures = cc in
    let later : figures_of_all sheets ≡ figures_of_all others = cc in
    let titles : sheet.title ≡ other.title = cc in
    let both : sheet_lines sheet.figures ++ lines_of_all sheets ≡ sheet_lines other.figures ++ lines_of_all others = cc in
    let rest : lines_of_all sheets ≡ lines_of_all others =
    sym (drop_at (sheet_lines sheet.figures) (lines_of_all sheets) count (lines_length sheet.figures))
    ∙ ap (λ (l : List (List ℕ)). drop count l) both
    ∙ drop_at (sheet_lines other.figures) (lines_of_all others) count (lines_length other.figures) in
    let first : sheet ≡ other = titled_same sheet other titles figures in
    rw (first, same_sheets sheets others rest later)

pub one_way : (text : List ℕ) (sheets others : List Titled) → TypedAs text sheets → TypedAs text others → sheets ≡ others
one_way text sheets others s t =
    same_sheets sheets others (sym s.lines ∙ t.lines) (sym (complete_text text sheets s).1 ∙ (complete_text text others t).1)

-- each line of sheets begins one or is that of a row's figure
sheet_line : (figures line : List ℕ) → Memᴰ line (sheet_lines figures) → LineKind line
unfolding sheet_lines
sheet_line figures line m = let r = rows_member figures 0 count line m in row r.0 (row_figure figures r.0) (omega (arith, r.1)) r.2

line_of_all : (sheets : List Titled) → Each Proper sheets → (line : List ℕ) → Memᴰ line (lines_of_all sheets) → LineKind line
unfolding lines_of_all
line_of_all [] p line m = absurd (Memᴰ.not-nil m)
line_of_all (sheet ∷ sheets) p line m = go (Memᴰ.cases_cons m) (line_of_all sheets p.1 line)
  where
    part : Memᴰ line (sheet_lines sheet.figures) ⊎ Memᴰ line (lines_of_all sheets) → (Memᴰ line (lines_of_all sheets) → LineKind line) → LineKind line
    part (inl m) further = sheet_line sheet.figures line m
    part (inr m) further = further m

    go : (line ≡ sheet.title) ⊎ Memᴰ line (sheet_lines sheet.figures ++ lines_of_all sheets) → (Memᴰ line (lines_of_all sheets) → LineKind line) → LineKind line
    go (inl e) further = begins (rw e p.0.begins)
    go (inr m) further = part (Memᴰ.append_cases (sheet_lines sheet.figures) m) further

pub each_line : (text : List ℕ) → Faultless text → (line : List ℕ) → Memᴰ line (kept text) → LineKind line
each_line text none line m = let s = sound_text text none in line_of_all s.0 s.1.each_proper line (rw s.1.lines at m)

-- of the lines of sheets one begins each, and no row's does
none_begin : (figures : List ℕ) (k m : ℕ) (rest : List (List ℕ)) → k + m ≤ count → beginnings (row_lines figures k m ++ rest) ≡ beginnings rest
unfolding row_lines beginnings
none_begin figures k zero rest h = refl
none_begin figures k (suc m) rest h = rw (row_begins_none k (row_figure figures k) (omega arith)) (none_begin figures (k + 1) m rest (omega arith))

each_begins : (sheets : List Titled) → Each Proper sheets → beginnings (lines_of_all sheets) ≡ length (figures_of_all sheets)
unfolding lines_of_all beginnings sheet_lines
each_begins [] p = refl
each_begins (sheet ∷ sheets) p =
    rw (p.0.begins, none_begin sheet.figures 0 count (lines_of_all sheets) (omega arith), each_begins sheets p.1) (omega arith)

pub one_each : (text : List ℕ) → Faultless text → length (sheets_of (all_of text)) ≡ beginnings (kept text)
one_each text none =
    let s = sound_text text none in ap length s.2 ∙ sym (each_begins s.0 s.1.each_proper) ∙ ap beginnings (sym s.1.lines)
