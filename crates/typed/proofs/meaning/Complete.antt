-- The line of a figure says that figure, so no two figures of a row have one line.
-- Each row is tested by computing: its numbers are short enough to be read, and its words can be told apart.
use Rattle.std.specs.Prelude.{Some, Ok, Err}
use mathlib.Core.Path.{◌≡◌, refl, ap, sym, ◌∙◌}
use mathlib.Core.Bool.{Bool, true, false, not, ◌&&◌}
use mathlib.Core.List.{List, ◌++◌, flatten}
use mathlib.Core.Logic.{◌↔◌, ◌≢◌}
use Prim.Native.Nat.{ℕ, ◌+◌, ◌≤◌, ◌<◌}
use native.Mathlib.Omega.{arith}
use lib.Dec.{T, ltb→lt, lt→ltb}
use lib.Seq.{drop-append_seam}
use Rattle.laws.specs.Choice.{◌<ᵇ◌}
use Rattle.laws.specs.Every.{every}
use Rattle.laws.specs.First.{first_from}
use Rattle.laws.proofs.Every.{both_left, both_right, every_at}
use Rattle.lines.specs.Decimals.{digits_within, digits, count_text}
use Rattle.sheet.specs.Fields.{fields, field_at, least, greatest, range_of}
use Rattle.typed.specs.Rows.{count, rows, row_at, values_of}
use Rattle.typed.specs.Lines.{token, tenths_text, hundredths_text, level_text, word_text, figure_by, figure_text, behind, unit_by, unit_text, name_text, front_text, line_text, blank_row, blank_text}
use Rattle.typed.specs.Reading.{stands, in_number, digit_on, digits_read, below_zero, level_guess, word_stands, word_guess, guess_by, guessed, entry_of, named, row_named}
use Rattle.typed.specs.declared.EntryFault.TheVariants.{NoFigure}
use Rattle.typed.specs.declared.Kind.{Kind}
use Rattle.typed.specs.declared.Kind.TheVariants.{Whole, Tenths, Hundredths, Words, Level}
use Rattle.typed.proofs.meaning.Fronts.{differs}
use Rattle.typed.proofs.meaning.Names.{rest, line_parts, line_row}
use Rattle.typed.proofs.meaning.Numbers.{readable, whole_back, tenths_back, hundredths_back, level_back}
use Rattle.typed.proofs.meaning.Words.{tellable, word_back}
use Rattle.typed.proofs.meaning.Ways.{guess_at, no_figure_exactly, figure_exactly, sound}

-- every figure up to one can be read back
abbrev pub tells : Kind → List ℕ → ℕ → Bool
tells Whole words most = most <ᵇ readable
tells Tenths words most = most <ᵇ readable
tells Hundredths words most = most <ᵇ readable
tells Words words most = (most <ᵇ 6) && every (most + 1) (tellable words)
tells Level words most = most <ᵇ readable

below : (n most : ℕ) → T (most <ᵇ readable) → n ≤ most → n < readable
below n most t h = omega (arith, ltb→lt most readable t)

figure_back : (k : Kind) (words unit : List ℕ) (most n : ℕ) → T (tells k words most) → n ≤ most
    → guess_by k words (figure_by k words n ++ unit_by k unit n) ≡ n
figure_back Whole words unit most n t h = whole_back n unit (below n most t h)
figure_back Tenths words unit most n t h = tenths_back n unit (below n most t h)
figure_back Hundredths words unit most n t h = hundredths_back n unit (below n most t h)
figure_back Words words unit most n t h =
    let few = ltb→lt most 6 (both_left (most <ᵇ 6) _ t) in
    let each = every_at (most + 1) (tellable words) (both_right (most <ᵇ 6) _ t) n (omega arith) in
    word_back words n (unit_by Words unit n) each (omega arith)
figure_back Level words unit most n t h = level_back n unit (below n most t h)

module _ (i most n : ℕ) (t : T (tells (row_at i).kind (row_at i).words most)) (h : n ≤ most) where
  guess_back : guess_at i (line_text i n) ≡ n
  unfolding guessed figure_text unit_text
  guess_back =
      let r = row_at i in
      rw (line_parts i n, drop-append_seam (name_text r) (rest i n)) (figure_back r.kind r.words r.unit most n t h)

  entry_back : entry_of i (line_text i n) ≡ Ok n
  entry_back = (figure_exactly i (line_text i n) n).1 (sym guess_back, refl)

-- the rows' numbers and words up to their greatest figures
row_tells : ℕ → Bool
row_tells i = tells (row_at i).kind (row_at i).words (values_of i).greatest

rows_test : T (every count row_tells)
unfolding row_tells row_at rows flatten values_of range_of least greatest field_at fields word_text token differs
rows_test = tt

pub complete : (i n : ℕ) → i < count → n ≤ (values_of i).greatest → entry_of i (line_text i n) ≡ Ok n
unfolding row_tells
complete i n h l = entry_back i (values_of i).greatest n (every_at count row_tells rows_test i h) l

-- numbers past the row's values are read as well
number_tells : (k : Kind) (words : List ℕ) (n : ℕ) → k ≢ Words → n < readable → T (tells k words n)
number_tells Whole words n d h = lt→ltb n readable h
number_tells Tenths words n d h = lt→ltb n readable h
number_tells Hundredths words n d h = lt→ltb n readable h
number_tells Words words n d h = absurd (d refl)
number_tells Level words n d h = lt→ltb n readable h

pub complete_number : (i n : ℕ) → (row_at i).kind ≢ Words → n < readable → entry_of i (line_text i n) ≡ Ok n
complete_number i n d h = entry_back i n n (number_tells (row_at i).kind (row_at i).words n d h) (omega arith)

pub exactly : (i n : ℕ) (line : List ℕ) → i < count → n ≤ (values_of i).greatest → (entry_of i line ≡ Ok n) ↔ (line ≡ line_text i n)
exactly i n line h l = (sound i line n, λ (e : line ≡ line_text i n). ap (entry_of i) e ∙ complete i n h l)

pub one_figure : (i m n : ℕ) → i < count → m ≤ (values_of i).greatest → n ≤ (values_of i).greatest → line_text i m ≡ line_text i n → m ≡ n
one_figure i m n h lm ln e =
    let p = complete i m h lm in
    let q = complete i n h ln in
    cc

pub one_line : (i j m n : ℕ) → i < count → j < count → m ≤ (values_of i).greatest → n ≤ (values_of j).greatest → line_text i m ≡ line_text j n
    → (i ≡ j) × (m ≡ n)
one_line i j m n hi hj lm ln e =
    let named : Some i ≡ Some j = sym (line_row i m hi) ∙ ap row_named e ∙ line_row j n hj in
    let s : i ≡ j = cc in
    (s, one_figure i m n hi lm (rw s ln) (e ∙ ap (λ (k : ℕ). line_text k n) (sym s)))

-- a row left as in the empty form says no figure
left_blank : ℕ → Bool
left_blank i = named (blank_text i) i && not (stands (front_text (row_at i) (guess_at i (blank_text i))) (blank_text i))

left_blank_test : T (every count left_blank)
unfolding left_blank named stands guessed digits_read in_number digit_on level_guess below_zero word_guess word_stands first_from blank_text blank_row front_text name_text figure_text unit_text behind token count_text digits digits_within tenths_text hundredths_text level_text word_text row_at rows flatten
left_blank_test = tt

pub blank_no_figure : (i : ℕ) → i < count → entry_of i (blank_text i) ≡ (Err NoFigure)
unfolding left_blank
blank_no_figure i h =
    let t = every_at count left_blank left_blank_test i h in
    let front = stands (front_text (row_at i) (guess_at i (blank_text i))) (blank_text i) in
    (no_figure_exactly i (blank_text i)).1
    (is_true (named (blank_text i) i) (both_left (named (blank_text i) i) (not front) t), is_false front (both_right (named (blank_text i) i) (not front) t))
  where
    is_true : (b : Bool) → T b → b ≡ true
    is_true true t = refl
    is_true false t = absurd t

    is_false : (b : Bool) → T (not b) → b ≡ false
    is_false true t = absurd t
    is_false false t = refl
