-- Each answer of writing, exactly when it is given, and what the place then holds.
use Rattle.std.specs.Prelude.{Result, Ok, Err}
use mathlib.Core.Path.{◌≡◌, refl}
use mathlib.Core.Bool.{Bool, true, false}
use mathlib.Core.List.{List, ◌++◌}
use mathlib.Core.Logic.{◌↔◌}
use Prim.Native.Nat.{ℕ, ◌<◌, ◌≤◌}
use native.Mathlib.Omega.{arith}
use borrow.Author.Tests.{eqb-true, eqb-false, ltb-true, ltb-false}
use lib.Dec.{eqb, ltb}
use lib.ListN.{length, take, drop}
use lib.Seq.{drop_at}
use Rattle.laws.proofs.Never.{never}
use Rattle.laws.specs.Choice.{ifᵇ◌then◌else◌}
use Rattle.laws.specs.Extremes.{Least}
use Rattle.laws.specs.Rows.{NoneBefore, Exactly}
use Rattle.laws.proofs.Extremes.{least_only}
use Rattle.laws.proofs.Rows.{Told, stop, past, bare, exactly}
use Rattle.sheet.specs.Fields.{first_bad, Bad}
use Rattle.sheet.specs.Packing.{size, bytes_of}
use Rattle.sheet.specs.Sheets.{figures_of, read_of, written_of, place_of, Valid}
use Rattle.sheet.specs.Refusals.{written_rows, written_number, written_field}
use Rattle.sheet.specs.declared.Sheet.{Sheet}
use Rattle.sheet.specs.declared.WriteFault.TheVariants.{PlaceTooSmall, BadField as BadFieldToWrite}
use Rattle.sheet.proofs.fields.BadFields.{first_least, none_bad}
use Rattle.sheet.proofs.sheets.OneWriting.{bytes_length, read_place}
use Rattle.sheet.specs.declared.WriteFault.{WriteFault}

-- the three ways of a writing: what is so of each is so of its answer and of what it leaves
module _ (s : Sheet) (place : List ℕ) (P : Result (Unit {0}) WriteFault → List ℕ → Type 0) where
  pub written_cases : (length place < size → P (Err PlaceTooSmall) place)
      → ((k : ℕ) → size ≤ length place → first_bad (figures_of s) ≡ k → (k ≡ 0 → ⊥) → P (Err (BadFieldToWrite k)) place)
      → (size ≤ length place → first_bad (figures_of s) ≡ 0 → P (Ok tt) (bytes_of (figures_of s) ++ drop size place))
      → P (written_of s place) (place_of s place)
  unfolding written_of place_of
  written_cases small bad done = go (ltb (length place) size) (eqb (first_bad v) 0) refl refl
    where
      v : List ℕ
      v = figures_of s

      go : (l n : Bool) → ltb (length place) size ≡ l → eqb (first_bad v) 0 ≡ n
          → P (ifᵇ l then Err PlaceTooSmall else (ifᵇ n then (Ok tt) else Err (BadFieldToWrite (first_bad v))))
          (ifᵇ l then place else (ifᵇ n then bytes_of v ++ drop size place else place))
      go true n p q = small (ltb-true _ _ p)
      go false true p q = done (ltb-false _ _ p) (eqb-true _ _ q)
      go false false p q = bad (first_bad v) (ltb-false _ _ p) refl (eqb-false _ _ q)

module _ (s : Sheet) (place : List ℕ) where
  pub written_exactly : Exactly (written_rows s place) (written_number (written_of s place))
  written_exactly =
      exactly (bare written_number) (written_rows s place) tt (written_of s place)
      (written_cases s place (λ w o. Told (bare written_number) (written_rows s place) w)
      (λ l. stop l (refl, tt))
      (λ k l f n. past (λ h. omega arith) (stop (record { field = k; bad = ((first_least (figures_of s) k).0 (f, n)).holds }) (refl, tt)))
      (λ l f. past (λ h. omega arith) (past (λ r. (none_bad (figures_of s)).0 f r.field r.bad) (refl, tt))))

  -- 3 with k exactly when k is the least bad field, and not 12
  pub named_exactly : (k : ℕ)
      → ((written_number (written_of s place) ≡ 3) × (written_field (written_of s place) ≡ k)) ↔ (Least (Bad (figures_of s)) k × NoneBefore (written_rows s place) 3)
  named_exactly k =
      written_cases s place (λ w o. ((written_number w ≡ 3) × (written_field w ≡ k)) ↔ (Least (Bad (figures_of s)) k × NoneBefore (written_rows s place) 3))
      (λ l. (λ e. absurd (omega (arith, e.0)), λ h. absurd (h.1.0 l)))
      (λ j l f n. let least = (first_least (figures_of s) j).0 (f, n) in
      (λ e. (rw (← e.1) least, (λ h. omega arith, tt)), λ h. (refl, least_only (Bad (figures_of s)) j k least h.0)))
      (λ l f. (λ e. absurd (omega (arith, e.0)), λ h. absurd ((none_bad (figures_of s)).0 f k h.0.holds)))

  -- 12 exactly when the place has not 28 bytes
  pub too_small_exactly : (written_number (written_of s place) ≡ 12) ↔ (length place < size)
  too_small_exactly =
      written_cases s place (λ w o. (written_number w ≡ 12) ↔ (length place < size))
      (λ l. (λ e. l, λ h. refl))
      (λ k l f n. (λ e. absurd (omega arith), λ h. absurd (omega arith)))
      (λ l f. (λ e. absurd (omega arith), λ h. absurd (omega arith)))

  -- done exactly when neither holds
  pub done_exactly : (written_of s place ≡ (Ok tt)) ↔ ((size ≤ length place) × ((k : ℕ) → ¬ Bad (figures_of s) k))
  done_exactly =
      written_cases s place (λ w o. (w ≡ (Ok tt)) ↔ ((size ≤ length place) × ((k : ℕ) → ¬ Bad (figures_of s) k)))
      (λ l. (λ e. never cc, λ h. absurd (omega (arith, h.0))))
      (λ k l f n. (λ e. never cc, λ h. absurd (h.1 k ((first_least (figures_of s) k).0 (f, n)).holds)))
      (λ l f. (λ e. (l, (none_bad (figures_of s)).0 f), λ h. refl))

  -- what is written is read as the same sheet
  pub read_done : written_of s place ≡ (Ok tt) → read_of (take size (place_of s place)) ≡ Ok s
  unfolding Valid
  read_done e = let h = done_exactly.0 e in read_place s place h.0 ((none_bad (figures_of s)).1 h.1)

  -- a refused writing changes no byte
  pub refused_unchanged : (written_of s place ≡ (Ok tt) → ⊥) → place_of s place ≡ place
  refused_unchanged = written_cases s place (λ w o. (w ≡ (Ok tt) → ⊥) → o ≡ place) (λ l n. refl) (λ k l f m n. refl) (λ l f n. absurd (n refl))

  -- any writing changes none past the 28th
  pub past_unchanged : drop size (place_of s place) ≡ drop size place
  past_unchanged =
      written_cases s place (λ w o. drop size o ≡ drop size place) (λ l. refl) (λ k l f n. refl)
      (λ l f. drop_at (bytes_of (figures_of s)) (drop size place) size (bytes_length (figures_of s)))
