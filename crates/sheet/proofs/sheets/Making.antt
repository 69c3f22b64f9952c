-- What figures make: a sheet whose figures they are, or the first bad field.
use Rattle.std.specs.Prelude.{Option, Some, None, Result, Ok, Err}
use mathlib.Core.Path.{◌≡◌, refl, ap, sym, ◌∙◌}
use mathlib.Core.Bool.{Bool, true, false}
use mathlib.Core.List.{List}
use mathlib.Core.Logic.{◌↔◌}
use Prim.Native.Nat.{ℕ}
use native.Mathlib.Omega.{arith}
use borrow.Author.Tests.{eq-eqb, ne_eqb, eqb-true, eqb-false, not-false}
use lib.Dec.{eqb}
use lib.ListN.{length}
use Rattle.laws.proofs.Never.{never}
use Rattle.laws.specs.Choice.{ifᵇ◌then◌else◌}
use Rattle.laws.specs.Extremes.{Least}
use Rattle.sheet.specs.Fields.{count, fields, field_at, nth, greatest, pair_bad, first_bad, named, Bad}
use Rattle.sheet.specs.Packing.{listed}
use Rattle.sheet.specs.Refusals.{read_number, read_field}
use Rattle.sheet.specs.Sheets.{sheet_of, bed_figure, figures_of, sheet_from, Valid}
use Rattle.sheet.specs.declared.Sheet.{Sheet}
use Rattle.sheet.specs.declared.ReadFault.TheVariants.{BadField}
use Rattle.sheet.proofs.bits.Regroup.{listed_is}
use Rattle.sheet.proofs.fields.BadFields.{first_least, none_bad}
use Rattle.sheet.proofs.fields.Runs.{named_some, named_none}
use Rattle.sheet.proofs.figures.Beds.{bed_back}
use Rattle.sheet.proofs.figures.Levels.{level_back, figures_back}
use Rattle.sheet.proofs.figures.SameFields.{only_fields, only_fields_at, first_bad_same}
use Rattle.sheet.proofs.sheets.Valid.{fine}
use Rattle.sheet.specs.declared.ReadFault.{ReadFault}

module _ (v : List ℕ) (bad : Option ℕ) (f : bad ≡ named (first_bad v)) where
  pub from_bad : (k : ℕ) → bad ≡ Some k → Err (BadField k) ≡ sheet_from v
  unfolding sheet_from
  from_bad k some = let n = named_some bad k _ f some in rw (← n.0, ne_eqb k 0 n.1)

  pub from_good : (s : Sheet) → bad ≡ None → s ≡ sheet_of v → Ok s ≡ sheet_from v
  unfolding sheet_from
  from_good s none g = rw (eq-eqb (first_bad v) 0 (named_none bad _ f none), g)

pub sheet_of_figures : (s : Sheet) → Valid s → sheet_of (figures_of s) ≡ s
unfolding Valid sheet_of figures_of greatest field_at fields
sheet_of_figures s e = rw (bed_back s.bed (fine (figures_of s) e 5 (omega arith)).high, level_back s.level)

no_level : (v : List ℕ) → pair_bad v 27 ≡ false → nth v 26 ≡ 0 → nth v 27 ≡ 0
unfolding pair_bad
no_level v p h = eqb-true (nth v 27) 0 (not-false _ (rw (eq-eqb (nth v 26) 0 h) at p))

-- figures of which none is bad are those of their sheet
pub figures_of_sheet : (v : List ℕ) → first_bad v ≡ 0 → figures_of (sheet_of v) ≡ only_fields v
unfolding sheet_of figures_of bed_figure listed greatest field_at fields
figures_of_sheet v e =
    let b = figures_back (nth v 26) (nth v 27) (fine v e 26 (omega arith)).high (no_level v (fine v e 27 (omega arith)).pair) in
    rw (b.source_back, b.level_figure_back)

pub valid_sheet : (v : List ℕ) → first_bad v ≡ 0 → Valid (sheet_of v)
unfolding Valid
valid_sheet v e = rw (figures_of_sheet v e) (first_bad_same (only_fields v) v (only_fields_at v) ∙ e)

-- a valid sheet is that of its figures
pub from_figures : (s : Sheet) → Valid s → sheet_from (figures_of s) ≡ Ok s
unfolding Valid
from_figures s e = sym (from_good (figures_of s) None (ap named (sym e)) s refl (sym (sheet_of_figures s e)))

-- the two ways of making: what is so of each is so of its answer
module _ (v : List ℕ) (P : Result Sheet ReadFault → Type 0) where
  pub from_cases : (first_bad v ≡ 0 → P (Ok (sheet_of v))) → ((first_bad v ≡ 0 → ⊥) → P (Err (BadField (first_bad v)))) → P (sheet_from v)
  unfolding sheet_from
  from_cases fine named = go (eqb (first_bad v) 0) refl
    where
      go : (b : Bool) → eqb (first_bad v) 0 ≡ b → P (ifᵇ b then Ok (sheet_of v) else Err (BadField (first_bad v)))
      go true e = fine (eqb-true (first_bad v) 0 e)
      go false e = named (eqb-false (first_bad v) 0 e)

-- a sheet that figures make has those figures
pub figures_of_made : (v : List ℕ) (s : Sheet) → length v ≡ count → sheet_from v ≡ Ok s → figures_of s ≡ v
figures_of_made v s l =
    from_cases v (λ r. r ≡ Ok s → figures_of s ≡ v)
    (λ none e. let sheet : s ≡ sheet_of v = cc in rw sheet (figures_of_sheet v none ∙ sym (listed_is (nth v) count v l (λ k h. refl))))
    (λ some e. never cc)

-- what figures make: 3 with k exactly when k is the least bad field, and a sheet exactly when there is none
module _ (v : List ℕ) where
  pub from_named_exactly : (k : ℕ) → ((read_number (sheet_from v) ≡ 3) × (read_field (sheet_from v) ≡ k)) ↔ Least (Bad v) k
  from_named_exactly k =
      from_cases v (λ (r : Result Sheet ReadFault). ((read_number r ≡ 3) × (read_field r ≡ k)) ↔ Least (Bad v) k)
      (λ none. (
        (λ e. absurd (omega (arith, e.0))),
        (λ l. absurd ((none_bad v).0 none k l.holds)),
      ))
      (λ some. (
        (λ e. (first_least v k).0 (e.1, λ z. some (e.1 ∙ z))),
        (λ l. (refl, ((first_least v k).1 l).0)),
      ))

  pub from_good_exactly : ((s : Sheet) × (sheet_from v ≡ Ok s)) ↔ ((k : ℕ) → ¬ Bad v k)
  from_good_exactly =
      from_cases v (λ (r : Result Sheet ReadFault). ((s : Sheet) × (r ≡ Ok s)) ↔ ((k : ℕ) → ¬ Bad v k))
      (λ none. (
        (λ g. (none_bad v).0 none),
        (λ h. (sheet_of v, refl)),
      ))
      (λ some. (
        (λ g. let e = g.1 in never cc),
        (λ h. absurd (some ((none_bad v).1 h))),
      ))
