-- Each way out of the call from C, exactly when it is taken, and what it leaves in the place.
use Rattle.std.specs.Prelude.{Result}
use mathlib.Core.Path.{◌≡◌, refl, ap, sym, ◌∙◌}
use mathlib.Core.Bool.{Bool, true, false}
use mathlib.Core.List.{List, [], ◌++◌}
use mathlib.Core.Logic.{◌↔◌}
use Prim.Native.Nat.{ℕ, ◌*◌, ◌≤◌, ◌<◌}
use native.Mathlib.Omega.{arith}
use borrow.Author.Tests.{lt-ltb, le-ltb, ltb-true, ltb-false}
use lib.Dec.{ltb}
use lib.IntN.{ℤ, pos}
use lib.ListN.{length, take, drop, get_or}
use mir.Syntax.{w32}
use mir.Val.{SFits}
use lib.Seq.{drop_at, take_at}
use Rattle.laws.specs.Choice.{ifᵇ◌then◌else◌}
use Rattle.laws.specs.Each.{Each}
use Rattle.laws.specs.Rows.{◌when◌, Exactly}
use Rattle.laws.proofs.Rows.{in_front}
use Rattle.sheet.specs.Packing.{Bytes}
use Rattle.design.specs.Numbers.{code_of, number_count, numbers_of}
use Rattle.design.specs.Refusals.{rows}
use Rattle.design.proofs.Promises.{no_table, number_given, unlisted_never, all_numbers, numbers_fit}
use Rattle.plan.specs.Words.{bytes_of_numbers, number_at}
use Rattle.plan.specs.Plan.{needed, planned, plan_number, plan_place, plan_rows}
use Rattle.plan.proofs.Placing.{bytes_length}
use Rattle.plan.proofs.Reading.{number_back}
use Rattle.design.specs.declared.Figures.{Figures}
use Rattle.design.specs.declared.Reason.{Reason}

pub planned_fits : (sheet : List ℕ) → Bytes sheet → Each (SFits w32) (numbers_of (planned sheet))
planned_fits sheet small = rw no_table (numbers_fit sheet [] small)

module _ (sheet place : List ℕ) where
  pub too_small : length place < needed → (12 ≡ plan_number sheet place) × (place ≡ plan_place sheet place)
  unfolding plan_number plan_place
  too_small h = rw (lt-ltb (length place) needed h) (refl, refl)

  pub large_enough : (a : Result Figures Reason) (numbers : List ℤ) (code : ℕ) (later : List ℕ) → needed ≤ length place → a ≡ planned sheet
      → numbers ≡ numbers_of a → code ≡ code_of a → later ≡ bytes_of_numbers numbers ++ drop needed place
      → (code ≡ plan_number sheet place) × (later ≡ plan_place sheet place)
  unfolding plan_number plan_place
  large_enough a numbers code later h e n c l =
      rw (le-ltb (length place) needed h)
      (c ∙ ap code_of e, l ∙ ap (λ (z : List ℤ). bytes_of_numbers z ++ drop needed place) (n ∙ ap numbers_of e))

  pub twelve_exactly : (plan_number sheet place ≡ 12) ↔ (length place < needed)
  unfolding plan_number rows
  twelve_exactly = ((λ e. go (ltb (length place) needed) refl e), (λ h. sym (too_small h).0))
    where
      go : (b : Bool) → ltb (length place) needed ≡ b → (ifᵇ b then 12 else code_of (planned sheet)) ≡ 12 → length place < needed
      go true p e = ltb-true _ _ p
      -- no design is refused by 12
      go false p e = absurd (unlisted_never sheet [] 12 (omega arith) tt (ap code_of (sym (no_table sheet)) ∙ e))

  -- 12, then the rows of a design
  pub number_exactly : Bytes sheet → Exactly (plan_rows sheet place) (plan_number sheet place)
  unfolding plan_number rows
  number_exactly small =
      in_front (12 when (length place < needed)) (rows sheet []) tt (ltb (length place) needed) (code_of (planned sheet))
      (ltb-true (length place) needed) (λ e h. omega (arith, ltb-false (length place) needed e)) (rw no_table (number_given sheet [] small))

  pub code_where_large : needed ≤ length place → plan_number sheet place ≡ code_of (planned sheet)
  unfolding plan_number
  code_where_large h = rw (le-ltb (length place) needed h)

  filled : length (bytes_of_numbers (numbers_of (planned sheet))) ≡ needed
  filled = bytes_length (numbers_of (planned sheet)) ∙ ap (λ (n : ℕ). 4 * n) (all_numbers (planned sheet))

  -- in a place that is large enough the numbers stand first and nothing later changes; in a smaller one nothing changes at all
  pub numbers_first : needed ≤ length place → take needed (plan_place sheet place) ≡ bytes_of_numbers (numbers_of (planned sheet))
  unfolding plan_place
  numbers_first h = rw (le-ltb (length place) needed h) (take_at (bytes_of_numbers (numbers_of (planned sheet))) (drop needed place) needed filled)

  pub number_in_place : Bytes sheet → needed ≤ length place → (i : ℕ) → i < number_count
      → number_at (plan_place sheet place) i ≡ get_or (numbers_of (planned sheet)) i (pos 0)
  unfolding plan_place
  number_in_place small h i k =
      rw (le-ltb (length place) needed h)
      (number_back (numbers_of (planned sheet)) (drop needed place) i (omega (arith, all_numbers (planned sheet))) (planned_fits sheet small))

  pub later_stay : drop needed (plan_place sheet place) ≡ drop needed place
  unfolding plan_place
  later_stay = go (ltb (length place) needed)
    where
      go : (b : Bool) → drop needed (ifᵇ b then place else bytes_of_numbers (numbers_of (planned sheet)) ++ drop needed place) ≡ drop needed place
      go true = refl
      go false = drop_at (bytes_of_numbers (numbers_of (planned sheet))) (drop needed place) needed filled
