-- The names of the rows: no two stand at the front of one line, so a line has one row's name, and no line of a row begins a sheet.
-- One test of each rule is computed over the table and carried to each row.
use Rattle.std.specs.Prelude.{Err, Some, None}
use mathlib.Core.Path.{◌≡◌, refl, ap, sym}
use mathlib.Core.Bool.{Bool, true, false, not}
use mathlib.Core.List.{List, [], ◌∷◌, ◌++◌, append_assoc}
use mathlib.Core.Logic.{◌↔◌, ◌≢◌}
use Prim.Native.Nat.{ℕ, zero, suc, ◌+◌, ◌-◌, ◌<◌}
use native.Mathlib.Omega.{arith}
use borrow.Author.Tests.{eqb-true, eqb-false, ne_eqb}
use lib.Dec.{T}
use Rattle.laws.specs.Choice.{ifᵇ◌then◌else◌, ◌=ᵇ◌}
use Rattle.laws.specs.Every.{every}
use Rattle.laws.specs.First.{first_of}
use Rattle.laws.proofs.Every.{where_true, holds_there, every_at}
use Rattle.laws.proofs.Never.{never}
use Rattle.laws.proofs.First.{first_is, none_is, is_first, is_none}
use Rattle.lines.specs.Lines.{space}
use Rattle.typed.specs.Rows.{bytes_of, count, rows, row_at}
use Rattle.typed.specs.Lines.{token, name_text, figure_text, front_text, unit_text, row_text, line_text}
use Rattle.typed.specs.Reading.{stands, entry_of, named, row_named}
use Rattle.typed.specs.declared.EntryFault.TheVariants.{NoName}
use Rattle.typed.proofs.meaning.Fronts.{differs, differ_stands, front_stands, longer_fails, not_both}
use Rattle.typed.proofs.meaning.Ways.{no_name_exactly}

-- what stands behind the name of a line
abbrev pub rest : ℕ → ℕ → List ℕ
rest i n = figure_text (row_at i) n ++ unit_text (row_at i) n

pub line_parts : (i n : ℕ) → line_text i n ≡ name_text (row_at i) ++ rest i n
unfolding line_text row_text front_text
line_parts i n = append_assoc (name_text (row_at i)) (figure_text (row_at i) n) (unit_text (row_at i) n)

-- two rows' names, with the space behind them, differ before either ends
apart : ℕ → ℕ → Bool
apart i j = where_true (not (i =ᵇ j)) (differs (name_text (row_at i)) (name_text (row_at j)))

apart_test : T (every count (λ i. every count (apart i)))
unfolding apart differs name_text token row_at rows
apart_test = tt

names_differ : (i j : ℕ) → i < count → j < count → i ≢ j → T (differs (name_text (row_at i)) (name_text (row_at j)))
unfolding apart
names_differ i j hi hj d =
    holds_there (not (i =ᵇ j)) _ (every_at count (apart i) (every_at count (λ k. every count (apart k)) apart_test i hi) j hj)
    (rw (ne_eqb i j d) tt)

pub own_name : (i n : ℕ) → named (line_text i n) i ≡ true
unfolding named
own_name i n = rw (line_parts i n) (front_stands (name_text (row_at i)) (rest i n))

-- a line with the name of one row has no other's
pub one_name : (line : List ℕ) (i j : ℕ) → i < count → j < count → i ≢ j → named line i ≡ true → named line j ≡ false
unfolding named
one_name line i j hi hj d e =
    not_both (name_text (row_at j)) (name_text (row_at i)) line (names_differ j i hj hi (λ (s : j ≡ i). d (sym s))) e

pub other_name : (i j n : ℕ) → i < count → j < count → i ≢ j → named (line_text i n) j ≡ false
other_name i j n hi hj d = one_name (line_text i n) i j hi hj d (own_name i n)

positive : (f i : ℕ) → f ≢ 0 → f - 1 ≡ i → f ≡ i + 1
positive zero i some e = absurd (some refl)
positive (suc f) i some e = omega arith

pub named_row : (line : List ℕ) (i : ℕ) → i < count → named line i ≡ true → row_named line ≡ Some i
unfolding row_named
named_row line i h e =
    let none : (j : ℕ) → j < i → named line j ≡ false = λ j l. one_name line i j h (omega arith) (λ (s : i ≡ j). omega arith) e in
    let first : first_of (named line) count ≡ i + 1 = first_is (named line) count i (record { within = h; here = e; none_before = none }) in
    let back : i + 1 - 1 ≡ i = omega arith in
    rw (first, ne_eqb (i + 1) 0 (λ (s : i + 1 ≡ 0). omega arith), back)

pub line_row : (i n : ℕ) → i < count → row_named (line_text i n) ≡ Some i
line_row i n h = named_row (line_text i n) i h (own_name i n)

-- what the answer says of the names
module _ (line : List ℕ) where
  abbrev found : ℕ
  found = first_of (named line) count

  found_at : (i : ℕ) → row_named line ≡ Some i → found ≡ i + 1
  unfolding row_named
  found_at i e = go (found =ᵇ 0) refl e
    where
      go : (b : Bool) → (found =ᵇ 0) ≡ b → (ifᵇ b then None else Some (found - 1)) ≡ Some i → found ≡ i + 1
      go true p e = never (cc)
      go false p e = let before : found - 1 ≡ i = cc in positive found i (eqb-false found 0 p) before

  pub has_its_name : (i : ℕ) → row_named line ≡ Some i → named line i ≡ true
  has_its_name i e = (is_first (named line) count i (found_at i e)).here

  pub row_within : (i : ℕ) → row_named line ≡ Some i → i < count
  row_within i e = (is_first (named line) count i (found_at i e)).within

  pub has_no_name : row_named line ≡ None → (i : ℕ) → i < count → named line i ≡ false
  unfolding row_named
  has_no_name e = go (found =ᵇ 0) refl e
    where
      go : (b : Bool) → (found =ᵇ 0) ≡ b → (ifᵇ b then None else Some (found - 1)) ≡ None → (i : ℕ) → i < count → named line i ≡ false
      go true p e = is_none (named line) count (eqb-true found 0 p)
      go false p e = never (cc)

  no_row : ((i : ℕ) → i < count → named line i ≡ false) → row_named line ≡ None
  unfolding row_named
  no_row none = rw (none_is (named line) count none)

  pub row_exactly : (i : ℕ) → i < count → (row_named line ≡ Some i) ↔ (named line i ≡ true)
  row_exactly i h = (has_its_name i, named_row line i h)

  pub no_row_exactly : (row_named line ≡ None) ↔ ((i : ℕ) → i < count → named line i ≡ false)
  no_row_exactly = (has_no_name, no_row)

-- so no name is told of a line exactly when another row, or none, is its
pub no_name_row : (i : ℕ) (line : List ℕ) → i < count → (entry_of i line ≡ (Err NoName)) ↔ (row_named line ≢ Some i)
no_name_row i line h = (λ e r. other ((no_name_exactly i line).0 e) ((row_exactly line i h).0 r), λ d. go (named line i) refl d)
  where
    other : named line i ≡ false → named line i ≡ true → ⊥
    other p q = let z : ◌≡◌ {A = ℕ} 0 1 = cc in omega arith

    go : (b : Bool) → named line i ≡ b → row_named line ≢ Some i → entry_of i line ≡ (Err NoName)
    go true e d = absurd (d (named_row line i h e))
    go false e d = (no_name_exactly i line).1 e

-- no name is the beginning of a sheet
no_sheet : ℕ → Bool
no_sheet i = differs (bytes_of "sheet") (name_text (row_at i))

no_sheet_test : T (every count no_sheet)
unfolding no_sheet differs name_text token row_at rows
no_sheet_test = tt

pub begins_no_sheet : (i n : ℕ) → i < count → stands (bytes_of "sheet") (line_text i n) ≡ false
unfolding no_sheet
begins_no_sheet i n h =
    rw (line_parts i n) (differ_stands (bytes_of "sheet") (name_text (row_at i)) (rest i n) (every_at count no_sheet no_sheet_test i h))

-- neither with the space behind it, nor without
pub begins_no_title : (i n : ℕ) → i < count → stands (bytes_of "sheet ") (line_text i n) ≡ false
begins_no_title i n h = longer_fails (bytes_of "sheet") (space ∷ []) (line_text i n) (begins_no_sheet i n h)

pub is_no_sheet : (i n : ℕ) → i < count → line_text i n ≢ bytes_of "sheet"
unfolding stands
is_no_sheet i n h e =
    let s : stands (bytes_of "sheet") (line_text i n) ≡ true = ap (stands (bytes_of "sheet")) e in
    let z : ◌≡◌ {A = ℕ} 0 1 = cc (begins_no_sheet i n h) in
    omega arith
