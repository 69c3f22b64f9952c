-- Each answer of reading, and exactly when it is given.
use Rattle.std.specs.Prelude.{Result, Ok, Err}
use mathlib.Core.Path.{◌≡◌, refl, sym, ◌∙◌}
use mathlib.Core.Bool.{Bool, true, false}
use mathlib.Core.List.{List}
use mathlib.Core.Logic.{◌↔◌, ◌≢◌}
use Prim.Native.Nat.{ℕ, ◌≤◌, zero-le}
use native.Mathlib.Omega.{arith}
use borrow.Author.Tests.{eqb-true, eqb-false}
use lib.Dec.{eqb}
use lib.ListN.{length}
use Rattle.laws.proofs.Never.{never}
use Rattle.laws.specs.Choice.{ifᵇ◌then◌else◌}
use Rattle.laws.specs.Extremes.{Least}
use Rattle.laws.specs.Rows.{NoneBefore, Exactly}
use Rattle.laws.proofs.Extremes.{least_only}
use Rattle.laws.proofs.Rows.{Told, stop, past, Call, exactly}
use Rattle.sheet.specs.Fields.{count, nth, first_bad, Bad}
use Rattle.sheet.specs.Packing.{size, groups_of, figures_in, Bytes, SpareSet}
use Rattle.sheet.specs.Refusals.{read_rows, read_number, read_field}
use Rattle.sheet.specs.Sheets.{sheet_of, sheet_from, read_groups, read_of}
use Rattle.sheet.specs.declared.Sheet.{Sheet}
use Rattle.sheet.specs.declared.ReadFault.TheVariants.{WrongLength, SpareBitSet, BadField}
use Rattle.sheet.proofs.sheets.Answers.{read_from, figures_in_lem}
use Rattle.sheet.proofs.fields.BadFields.{bad_within, first_least, none_bad}
use Rattle.sheet.proofs.sheets.Making.{from_cases}
use Rattle.sheet.proofs.bits.Spare.{spare_set}
use Rattle.sheet.specs.declared.ReadFault.{ReadFault}

-- the four ways of a reading: what is so of each is so of its answer
module _ (b : List ℕ) (P : Result Sheet ReadFault → Type 0) where
  pub read_cases : (length b ≢ size → P (Err WrongLength))
      → (length b ≡ size → nth (groups_of b) count ≢ 0 → P (Err SpareBitSet))
      → ((k : ℕ) → length b ≡ size → nth (groups_of b) count ≡ 0 → first_bad (groups_of b) ≡ k → k ≢ 0 → P (Err (BadField k)))
      → (length b ≡ size → nth (groups_of b) count ≡ 0 → first_bad (groups_of b) ≡ 0 → P (Ok (sheet_of (groups_of b))))
      → P (read_of b)
  unfolding read_of read_groups
  read_cases long spare bad good = go (eqb (length b) size) (eqb (nth v count) 0) refl refl
    where
      v : List ℕ
      v = groups_of b

      go : (l z : Bool) → eqb (length b) size ≡ l → eqb (nth v count) 0 ≡ z
          → P (ifᵇ l then (ifᵇ z then sheet_from v else Err SpareBitSet) else Err WrongLength)
      go true true p q =
          from_cases v P (good (eqb-true _ _ p) (eqb-true _ _ q)) (bad (first_bad v) (eqb-true _ _ p) (eqb-true _ _ q) refl)
      go true false p q = spare (eqb-true _ _ p) (eqb-false _ _ q)
      go false z p q = long (eqb-false _ _ p)

-- the field that is given is at most 29
pub named_within : (b : List ℕ) → read_field (read_of b) ≤ count
named_within b =
    read_cases b (λ r. read_field r ≤ count) (λ h. zero-le) (λ l z. zero-le)
    (λ k l z f n. bad_within (groups_of b) k ((first_least (groups_of b) k).0 (f, n)).holds)
    (λ l z f. zero-le)

-- what is told of a reading: a sheet is that of the bytes' groups, and a bad field that is named is the first
abbrev pub Unread : List ℕ → Result Sheet ReadFault → Type 0
Unread b (Ok s) = ⊥
Unread b (Err WrongLength) = Unit {0}
Unread b (Err SpareBitSet) = Unit {0}
Unread b (Err (BadField k)) = Least (Bad (groups_of b)) k

abbrev pub reads : List ℕ → Call (Result Sheet ReadFault)
reads b = record { number = read_number; answered = λ r. r ≡ Ok (sheet_of (groups_of b)); refused = Unread b }

-- 1 exactly when there are not 28 bytes
pub wrong_length_exactly : (b : List ℕ) → (read_number (read_of b) ≡ 1) ↔ (length b ≢ size)
wrong_length_exactly b =
    read_cases b (λ r. (read_number r ≡ 1) ↔ (length b ≢ size))
    (λ h. (λ e. h, λ n. refl))
    (λ l z. (λ e. absurd (omega arith), λ n. absurd (n l)))
    (λ k l z f n. (λ e. absurd (omega arith), λ n. absurd (n l)))
    (λ l z f. (λ e. absurd (omega arith), λ n. absurd (n l)))

module _ (b : List ℕ) (small : Bytes b) where
  pub read_told : Told (reads b) (read_rows b) (read_of b)
  read_told =
      read_cases b (Told (reads b) (read_rows b))
      (λ h. stop h (refl, tt))
      (λ l z. past (λ h. h l) (stop ((spare_set b small).1 z) (refl, tt)))
      (λ k l z f n. let least = (first_least (groups_of b) k).0 (f, n) in
      past (λ h. h l) (past (λ w. (spare_set b small).0 w z) (stop (record { field = k; bad = least.holds }) (refl, least))))
      (λ l z f.
      past (λ h. h l) (past (λ w. (spare_set b small).0 w z) (past (λ s. (none_bad (groups_of b)).0 f s.field s.bad) (refl, refl))))

  pub read_exactly : Exactly (read_rows b) (read_number (read_of b))
  read_exactly = exactly (reads b) (read_rows b) tt (read_of b) read_told

  -- 3 with k exactly when k is the least bad field, and neither 1 nor 2
  pub named_exactly : (k : ℕ)
      → ((read_number (read_of b) ≡ 3) × (read_field (read_of b) ≡ k)) ↔ (Least (Bad (groups_of b)) k × NoneBefore (read_rows b) 3)
  named_exactly k =
      read_cases b (λ r. ((read_number r ≡ 3) × (read_field r ≡ k)) ↔ (Least (Bad (groups_of b)) k × NoneBefore (read_rows b) 3))
      (λ h. (λ e. absurd (omega (arith, e.0)), λ n. absurd (n.1.0 h)))
      (λ l z. (λ e. absurd (omega (arith, e.0)), λ n. absurd (n.1.1.0 ((spare_set b small).1 z))))
      (λ j l z f n. let least = (first_least (groups_of b) j).0 (f, n) in (
        (λ e. (rw (← e.1) least, (λ h. h l, (λ w. (spare_set b small).0 w z, tt)))),
        (λ n. (refl, least_only (Bad (groups_of b)) j k least n.0)),
      ))
      (λ l z f. (λ e. absurd (omega (arith, e.0)), λ n. absurd ((none_bad (groups_of b)).0 f k n.0.holds)))

  -- no spare bit is set: their group is 0
  clear : ¬ SpareSet b → nth (groups_of b) count ≡ 0
  clear h = let z : ¬ (1 ≤ nth (groups_of b) count) = λ n. h ((spare_set b small).1 (λ e. omega arith)) in omega arith

  -- a sheet exactly when none of the three holds
  pub good_exactly : ((s : Sheet) × (read_of b ≡ Ok s)) ↔ ((length b ≡ size) × (¬ SpareSet b) × ((k : ℕ) → ¬ Bad (groups_of b) k))
  good_exactly =
      read_cases b (λ r. ((s : Sheet) × (r ≡ Ok s)) ↔ ((length b ≡ size) × (¬ SpareSet b) × ((k : ℕ) → ¬ Bad (groups_of b) k)))
      (λ h. (λ g. let e = g.1 in never cc, λ n. absurd (h n.0)))
      (λ l z. (λ g. let e = g.1 in never cc, λ n. absurd (n.1 ((spare_set b small).1 z))))
      (λ k l z f n. (λ g. let e = g.1 in never cc, λ n'. absurd (n'.2 k ((first_least (groups_of b) k).0 (f, n)).holds)))
      (λ l z f. (λ g. (l, (λ w. (spare_set b small).0 w z), (none_bad (groups_of b)).0 f), λ n. (sheet_of (groups_of b), refl)))

  -- 28 bytes with no spare bit set are read as the sheet of their figures
  pub read_by_figures : length b ≡ size → ¬ SpareSet b → read_of b ≡ sheet_from (figures_in b)
  read_by_figures l h = sym (read_from b _ l refl (clear h)) ∙ sym (figures_in_lem b)
