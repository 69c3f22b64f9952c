-- A depth tells of its rows: it is refused by the one whose reason it has, and has none where it is answered.
use Rattle.std.specs.Prelude.{Result, Ok, Err}
use mathlib.Core.Path.{◌≡◌, refl, sym, ap, subst, ◌∙◌}
use mathlib.Core.Logic.{◌≢◌}
use native.Mathlib.Omega.{arith}
use lib.ListN.{length}
use Rattle.laws.specs.Rows.{Exactly}
use Rattle.laws.proofs.Rows.{Told, stop, past, Call, exactly}
use Rattle.depth.specs.declared.Stretch.{Stretch}
use Rattle.depth.specs.declared.DepthFault.{DepthFault}
use Rattle.depth.specs.declared.DepthFault.TheVariants.{NoSquatEntry, SiltOver, CutOver}
use Rattle.depth.specs.declared.DepthFigures.{DepthFigures}
use Rattle.depth.specs.Depth.{Figures, AsDefined, depth_fault_number, depth_number}
use Rattle.depth.specs.Worksheet.{tries, work_depth, Counted}
use Rattle.depth.specs.Reasons.{FirstUnusable, depth_rows}
use Rattle.depth.proofs.cuts.LeastCut.{work_as_defined, work_counted}
use Rattle.depth.proofs.cuts.Reasons.{number_exactly}

-- a depth that is answered, with its figures and the worksheet's count
pub record Worked (q : Stretch) (depth : Result DepthFigures DepthFault) : Type 0 where
  pub figures : DepthFigures
  pub is : depth ≡ Ok figures
  pub meant : Figures q figures
  pub counted : figures.columns ≡ length (tries q)

abbrev pub depths : Stretch → Call (Result DepthFigures DepthFault)
depths q = record { number = depth_number; answered = Worked q; refused = λ depth. (fault : DepthFault) × (depth ≡ Err fault) }

module _ (q : Stretch) where
  given : (fault : DepthFault) → work_depth q ≡ Err fault → FirstUnusable q fault
  given fault e = (number_exactly q fault).0 (ap depth_number e)

  not_given : (fault : DepthFault) (d : Result DepthFigures DepthFault) → work_depth q ≡ d → depth_number d ≢ depth_fault_number fault → ¬ FirstUnusable q fault
  not_given fault d e other u = other (sym (ap depth_number e) ∙ (number_exactly q fault).1 u)

  pub depth_told : Told (depths q) (depth_rows q) (work_depth q)
  depth_told = go (work_depth q) refl
    where
      go : (d : Result DepthFigures DepthFault) → work_depth q ≡ d → Told (depths q) (depth_rows q) d
      go (Err NoSquatEntry) e = stop (given NoSquatEntry e) (refl, (_, refl))
      go (Err SiltOver) e = past (not_given NoSquatEntry _ e (λ n. omega arith)) (stop (given SiltOver e) (refl, (_, refl)))
      go (Err CutOver) e =
          past (not_given NoSquatEntry _ e (λ n. omega arith))
          (past (not_given SiltOver _ e (λ n. omega arith)) (stop (given CutOver e) (refl, (_, refl))))
      go (Ok f) e =
          past (not_given NoSquatEntry _ e (λ n. omega arith))
          (past (not_given SiltOver _ e (λ n. omega arith))
          (past (not_given CutOver _ e (λ n. omega arith)) (
            refl,
            record {
              figures = f;
              is = refl;
              meant = subst (AsDefined q) e (work_as_defined q);
              counted = subst (Counted q) e (work_counted q);
            },
          )))

  pub depth_exactly : Exactly (depth_rows q) (depth_number (work_depth q))
  depth_exactly = exactly (depths q) (depth_rows q) tt (work_depth q) depth_told
