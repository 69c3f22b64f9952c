-- A number is given exactly when its row holds and none checked before it does, by the law of ordered rows; an answer exactly when no row holds,
-- with the only figures that are so.
use Rattle.std.specs.Prelude.{Result, Ok, Err}
use mathlib.Core.Path.{◌≡◌, refl, ap, ◌∙◌}
use mathlib.Core.List.{List}
use mathlib.Core.Logic.{◌↔◌, ◌⊎◌}
use Prim.Native.Nat.{ℕ}
use native.Mathlib.Omega.{arith}
use Rattle.laws.specs.Extremes.{Least}
use Rattle.laws.specs.Rows.{NoneBefore, None, Exactly}
use Rattle.laws.proofs.Rows.{exactly, ended, answer_exactly, refusal_exactly}
use Rattle.laws.proofs.Extremes.{least_only}
use Rattle.sheet.specs.Fields.{Bad}
use Rattle.sheet.specs.Packing.{groups_of, Bytes}
use Rattle.sheet.specs.declared.ReadFault.TheVariants.{BadField}
use Rattle.depth.specs.Depth.{Meets}
use Rattle.depth.specs.declared.DepthFault.{DepthFault}
use Rattle.depth.specs.declared.DepthFault.TheVariants.{NoSquatEntry, SiltOver, CutOver}
use Rattle.depth.proofs.Promises.{unusable_none}
use Rattle.design.specs.Design.{design_of}
use Rattle.design.specs.Numbers.{code_of}
use Rattle.design.specs.Refusals.{reason_field, sheet_in, level_in, rows}
use Rattle.design.specs.Answers.{stretch_of, FiguresAre}
use Rattle.design.specs.declared.Figures.{Figures}
use Rattle.design.specs.declared.Reason.TheVariants.{NoSheet, NoDepth}
use Rattle.design.proofs.answers.Numbers.{one_reason}
use Rattle.design.proofs.answers.Figures.{figures_only}
use Rattle.design.proofs.rows.Checked.{Right, Named, designs, told}
use Rattle.design.specs.declared.Reason.{Reason}

module _ (bytes table : List ℕ) where
  only_figures : (f : Figures) (a : Result Figures Reason) → Right bytes table a → FiguresAre (sheet_in bytes) (level_in (sheet_in bytes) table) f → a ≡ Ok f
  only_figures f (Ok g) right are = ap Ok (figures_only (sheet_in bytes) (level_in (sheet_in bytes) table) g f right are)
  only_figures f (Err r) right are = absurd right

  only_field : (k : ℕ) (a : Result Figures Reason) → code_of a ≡ 3 → Named bytes a → Least (Bad (groups_of bytes)) k → a ≡ Err (NoSheet (BadField k))
  only_field k (Ok f) three names least = absurd names
  only_field k (Err r) three names least =
      let is : r ≡ NoSheet (BadField (reason_field r)) = one_reason r (NoSheet (BadField (reason_field r))) three refl in
      ap Err (is ∙ ap (λ (n : ℕ). NoSheet (BadField n)) (least_only (Bad (groups_of bytes)) (reason_field r) k (names three) least))

  -- how a design ended: answered past every row, or refused by one
  abbrev pub Ended : Result Figures Reason → Type 0
  Ended a = (None (rows bytes table) × Right bytes table a) ⊎ (¬ None (rows bytes table) × Named bytes a)

  module _ (small : Bytes bytes) where
    pub design_ended : Ended (design_of bytes table)
    design_ended = ended (designs bytes table) (rows bytes table) (design_of bytes table) (told bytes table small)

    pub design_exactly : Exactly (rows bytes table) (code_of (design_of bytes table))
    unfolding rows
    design_exactly = exactly (designs bytes table) (rows bytes table) tt (design_of bytes table) (told bytes table small)

    pub figures_exactly : (f : Figures)
        → (design_of bytes table ≡ Ok f)
        ↔ (None (rows bytes table) × FiguresAre (sheet_in bytes) (level_in (sheet_in bytes) table) f)
    unfolding rows
    figures_exactly f =
        answer_exactly (designs bytes table) (rows bytes table) tt (design_of bytes table) (told bytes table small) (Ok f) refl
        (only_figures f (design_of bytes table))

    pub field_exactly : (k : ℕ) → (design_of bytes table ≡ Err (NoSheet (BadField k))) ↔ (Least (Bad (groups_of bytes)) k × NoneBefore (rows bytes table) 3)
    unfolding rows
    field_exactly k =
        let first =
        refusal_exactly (designs bytes table) (rows bytes table) tt (design_of bytes table) (told bytes table small) (Err (NoSheet (BadField k))) (omega arith)
        (λ names. record { field = k; bad = (names refl).holds }) (λ same named names. only_field k (design_of bytes table) same named (names refl)) in
        ((λ e. let is = first.0 e in (is.0 refl, is.1)), (λ is. first.1 ((λ three. is.0), is.1)))

    -- no depth is said only when no cut meets the definition
    pub no_depth_only : (fault : DepthFault) → design_of bytes table ≡ Err (NoDepth fault) → (d : ℕ) → ¬ Meets (stretch_of (sheet_in bytes) (level_in (sheet_in bytes) table)) d
    unfolding rows
    no_depth_only NoSquatEntry e = unusable_none _ NoSquatEntry ((design_exactly.number_given 13 (omega arith)).0 (ap code_of e)).0
    no_depth_only SiltOver e = unusable_none _ SiltOver ((design_exactly.number_given 14 (omega arith)).0 (ap code_of e)).0
    no_depth_only CutOver e = unusable_none _ CutOver ((design_exactly.number_given 15 (omega arith)).0 (ap code_of e)).0
