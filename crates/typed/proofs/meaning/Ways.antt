-- The four ways out of reading a line, and when each is taken: the tests are a chain, so each way is where those before it failed.
use Rattle.std.specs.Prelude.{Result, Ok, Err}
use mathlib.Core.Path.{◌≡◌, refl, ap, sym, ◌∙◌}
use mathlib.Core.Bool.{Bool, true, false}
use mathlib.Core.List.{List}
use mathlib.Core.Logic.{◌↔◌, ◌≢◌}
use Prim.Native.Nat.{ℕ}
use native.Mathlib.Omega.{arith}
use lib.ListN.{length, drop}
use Rattle.laws.specs.Choice.{ifᵇ◌then◌else◌}
use Rattle.typed.specs.Rows.{row_at}
use Rattle.typed.specs.Lines.{name_text, figure_text, front_text, row_text, line_text}
use Rattle.typed.specs.Reading.{stands, same, guessed, entry_on, entry_by, entry_of, named}
use Rattle.typed.specs.declared.EntryFault.TheVariants.{NoName, NoFigure, NoUnit}
use Rattle.typed.specs.declared.table.Row.{Row}
use Rattle.typed.proofs.meaning.Fronts.{front_stands, shorter_stands, same_text, text_same}
use Rattle.typed.specs.declared.EntryFault.{EntryFault}

-- the figure that a line may say in a row
abbrev pub guess_in : Row → List ℕ → ℕ
guess_in r line = guessed r (drop (length (name_text r)) line)

abbrev pub guess_at : ℕ → List ℕ → ℕ
guess_at i line = guess_in (row_at i) line

-- what the tests found where an entry was told
pub data Way (r : Row) (line : List ℕ) (entry : Result ℕ EntryFault) : Type 0 where
  no_name : entry ≡ (Err NoName) → stands (name_text r) line ≡ false → Way r line entry
  no_figure : entry ≡ (Err NoFigure) → stands (name_text r) line ≡ true → stands (front_text r (guess_in r line)) line ≡ false → Way r line entry
  no_unit : entry ≡ (Err NoUnit) → stands (front_text r (guess_in r line)) line ≡ true → same (row_text r (guess_in r line)) line ≡ false → Way r line entry
  figure : entry ≡ Ok (guess_in r line) → same (row_text r (guess_in r line)) line ≡ true → Way r line entry

pub way : (r : Row) (line : List ℕ) → Way r line (entry_by r line)
unfolding entry_by entry_on
way r line =
    go (stands (name_text r) line) (stands (front_text r (guess_in r line)) line) (same (row_text r (guess_in r line)) line) refl refl refl
  where
    go : (a b c : Bool) → stands (name_text r) line ≡ a → stands (front_text r (guess_in r line)) line ≡ b
        → same (row_text r (guess_in r line)) line ≡ c
        → Way r line (ifᵇ a then (ifᵇ b then (ifᵇ c then Ok (guess_in r line) else (Err NoUnit)) else (Err NoFigure)) else (Err NoName))
    go false b c p q s = no_name refl p
    go true false c p q s = no_figure refl p q
    go true true false p q s = no_unit refl q s
    go true true true p q s = figure refl s

-- the name stands where it stands with the figure
pub front_named : (r : Row) (line : List ℕ) (n : ℕ) → stands (front_text r n) line ≡ true → stands (name_text r) line ≡ true
unfolding front_text
front_named r line n e = shorter_stands (name_text r) (figure_text r n) line e

pub row_front : (r : Row) (n : ℕ) → stands (front_text r n) (row_text r n) ≡ true
unfolding row_text
row_front r n = front_stands (front_text r n) _

-- and back, each way from its tests
module _ (r : Row) (line : List ℕ) where
  told_no_name : stands (name_text r) line ≡ false → entry_by r line ≡ (Err NoName)
  unfolding entry_by
  told_no_name e = rw e

  told_no_figure : stands (name_text r) line ≡ true → stands (front_text r (guess_in r line)) line ≡ false → entry_by r line ≡ (Err NoFigure)
  unfolding entry_by entry_on
  told_no_figure e f = rw (e, f)

  told_no_unit : stands (front_text r (guess_in r line)) line ≡ true → same (row_text r (guess_in r line)) line ≡ false → entry_by r line ≡ (Err NoUnit)
  unfolding entry_by entry_on
  told_no_unit e f = rw (front_named r line (guess_in r line) e, e, f)

  told_figure : line ≡ row_text r (guess_in r line) → entry_by r line ≡ Ok (guess_in r line)
  unfolding entry_by entry_on
  told_figure e =
      let f : stands (front_text r (guess_in r line)) line ≡ true = ap (stands (front_text r (guess_in r line))) e ∙ row_front r (guess_in r line) in
      let s : same (row_text r (guess_in r line)) line ≡ true = ap (same (row_text r (guess_in r line))) e ∙ text_same (row_text r (guess_in r line)) in
      rw (front_named r line (guess_in r line) f, f, s)

-- exactly when each is told
module _ (r : Row) (line : List ℕ) where
  name_out : (entry_by r line ≡ (Err NoName)) ↔ (stands (name_text r) line ≡ false)
  name_out = (λ e. go (entry_by r line) (way r line) e, told_no_name r line)
    where
      go : (entry : Result ℕ EntryFault) → Way r line entry → entry ≡ (Err NoName) → stands (name_text r) line ≡ false
      go entry (no_name t p) e = p
      go entry (no_figure t p q) e = cc
      go entry (no_unit t p q) e = cc
      go entry (figure t p) e = cc

  figure_out : (entry_by r line ≡ (Err NoFigure)) ↔ ((stands (name_text r) line ≡ true) × (stands (front_text r (guess_in r line)) line ≡ false))
  figure_out = (λ e. go (entry_by r line) (way r line) e, λ t. told_no_figure r line t.0 t.1)
    where
      go : (entry : Result ℕ EntryFault) → Way r line entry → entry ≡ (Err NoFigure)
          → (stands (name_text r) line ≡ true) × (stands (front_text r (guess_in r line)) line ≡ false)
      go entry (no_name t p) e = let z : ◌≡◌ {A = ℕ} 0 1 = cc in absurd (omega arith)
      go entry (no_figure t p q) e = (p, q)
      go entry (no_unit t p q) e = let z : ◌≡◌ {A = ℕ} 0 1 = cc in absurd (omega arith)
      go entry (figure t p) e = let z : ◌≡◌ {A = ℕ} 0 1 = cc in absurd (omega arith)

  unit_out : (entry_by r line ≡ (Err NoUnit)) ↔ ((stands (front_text r (guess_in r line)) line ≡ true) × (line ≢ row_text r (guess_in r line)))
  unit_out = (λ e. go (entry_by r line) (way r line) e, λ t. told_no_unit r line t.0 (differ (same (row_text r (guess_in r line)) line) refl t.1))
    where
      go : (entry : Result ℕ EntryFault) → Way r line entry → entry ≡ (Err NoUnit)
          → (stands (front_text r (guess_in r line)) line ≡ true) × (line ≢ row_text r (guess_in r line))
      go entry (no_name t p) e = let z : ◌≡◌ {A = ℕ} 0 1 = cc in absurd (omega arith)
      go entry (no_figure t p q) e = let z : ◌≡◌ {A = ℕ} 0 1 = cc in absurd (omega arith)
      go entry (no_unit t p q) e = (
        p,
        λ (l : line ≡ row_text r (guess_in r line)).
            let s : same (row_text r (guess_in r line)) line ≡ true = ap (same (row_text r (guess_in r line))) l ∙ text_same (row_text r (guess_in r line)) in
            let z : ◌≡◌ {A = ℕ} 0 1 = cc in omega arith,
      )
      go entry (figure t p) e = let z : ◌≡◌ {A = ℕ} 0 1 = cc in absurd (omega arith)

      differ : (b : Bool) → same (row_text r (guess_in r line)) line ≡ b → line ≢ row_text r (guess_in r line)
          → same (row_text r (guess_in r line)) line ≡ false
      differ true e d = absurd (d (same_text (row_text r (guess_in r line)) line e))
      differ false e d = e

  figure_in : (n : ℕ) → (entry_by r line ≡ Ok n) ↔ ((n ≡ guess_in r line) × (line ≡ row_text r n))
  figure_in n = (λ e. go (entry_by r line) (way r line) e, λ t. back t.0 t.1)
    where
      go : (entry : Result ℕ EntryFault) → Way r line entry → entry ≡ Ok n → (n ≡ guess_in r line) × (line ≡ row_text r n)
      go entry (no_name t p) e = let z : ◌≡◌ {A = ℕ} 0 1 = cc in absurd (omega arith)
      go entry (no_figure t p q) e = let z : ◌≡◌ {A = ℕ} 0 1 = cc in absurd (omega arith)
      go entry (no_unit t p q) e = let z : ◌≡◌ {A = ℕ} 0 1 = cc in absurd (omega arith)
      go entry (figure t p) e =
          let s : n ≡ guess_in r line = cc in
          (s, same_text (row_text r (guess_in r line)) line p ∙ ap (row_text r) (sym s))

      back : n ≡ guess_in r line → line ≡ row_text r n → entry_by r line ≡ Ok n
      back s l = told_figure r line (l ∙ ap (row_text r) s) ∙ ap Ok (sym s)

module _ (i : ℕ) (line : List ℕ) where
  pub no_name_exactly : (entry_of i line ≡ (Err NoName)) ↔ (named line i ≡ false)
  unfolding entry_of named
  no_name_exactly = name_out (row_at i) line

  pub no_figure_exactly : (entry_of i line ≡ (Err NoFigure)) ↔ ((named line i ≡ true) × (stands (front_text (row_at i) (guess_at i line)) line ≡ false))
  unfolding entry_of named
  no_figure_exactly = figure_out (row_at i) line

  pub no_unit_exactly : (entry_of i line ≡ (Err NoUnit))
      ↔ ((stands (front_text (row_at i) (guess_at i line)) line ≡ true) × (line ≢ line_text i (guess_at i line)))
  unfolding entry_of line_text
  no_unit_exactly = unit_out (row_at i) line

  pub figure_exactly : (n : ℕ) → (entry_of i line ≡ Ok n) ↔ ((n ≡ guess_at i line) × (line ≡ line_text i n))
  unfolding entry_of line_text
  figure_exactly = figure_in (row_at i) line

  pub sound : (n : ℕ) → entry_of i line ≡ Ok n → line ≡ line_text i n
  sound n e = ((figure_exactly n).0 e).1
