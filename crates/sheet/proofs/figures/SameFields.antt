-- Figures that agree on the fields make one sheet, whatever stands behind them.
use mathlib.Core.Path.{◌≡◌, refl, ap, sym, ◌∙◌}
use mathlib.Core.List.{List}
use Prim.Native.Nat.{ℕ, ◌<◌}
use native.Mathlib.Nat.{zero-add}
use native.Mathlib.Omega.{arith}
use Rattle.sheet.specs.Fields.{count, nth, pair_bad, bad_at, first_bad}
use Rattle.sheet.specs.Packing.{listed}
use Rattle.sheet.specs.Sheets.{sheet_of, sheet_from}
use Rattle.sheet.proofs.bits.Regroup.{listed_at, listed_is, listed_length}
use Rattle.sheet.proofs.fields.Runs.{same_run}

-- the figures of the fields, and nothing behind them
abbrev pub only_fields : List ℕ → List ℕ
only_fields v = listed (nth v) 0 count

pub only_fields_at : (v : List ℕ) (k : ℕ) → k < count → nth (only_fields v) k ≡ nth v k
only_fields_at v k h = listed_at (nth v) 0 count k h ∙ ap (nth v) (zero-add k)

sheet_of_only_fields : (v : List ℕ) → sheet_of v ≡ sheet_of (only_fields v)
unfolding sheet_of listed
sheet_of_only_fields v = refl

module _ (v w : List ℕ) (same : (k : ℕ) → k < count → nth v k ≡ nth w k) where
  pub only_fields_same : only_fields v ≡ only_fields w
  only_fields_same = listed_is (nth w) count (only_fields v) (listed_length (nth v) 0 count) (λ k h. only_fields_at v k h ∙ same k h)

  pub sheet_same : sheet_of v ≡ sheet_of w
  sheet_same = sheet_of_only_fields v ∙ ap sheet_of only_fields_same ∙ sym (sheet_of_only_fields w)

  bad_same : (k : ℕ) → k < count → bad_at v k ≡ bad_at w k
  unfolding bad_at pair_bad
  bad_same k h = rw (same k h, same 24 (omega arith), same 25 (omega arith), same 26 (omega arith), same 27 (omega arith))

  pub first_bad_same : first_bad v ≡ first_bad w
  unfolding first_bad
  first_bad_same = same_run (bad_at v) (bad_at w) count bad_same 0 count (omega arith)

  pub sheet_from_same : sheet_from v ≡ sheet_from w
  unfolding sheet_from
  sheet_from_same = rw (first_bad_same, sheet_same)
