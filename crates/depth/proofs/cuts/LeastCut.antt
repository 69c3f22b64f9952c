-- The worksheet's answer is the depth as it is defined: the least cut that meets the definition, or that none does. Nothing else is.
use Rattle.std.specs.Prelude.{Result, Ok, Err}
use mathlib.Core.Path.{◌≡◌, refl, ap, subst}
use mathlib.Core.Logic.{◌↔◌}
use mathlib.Core.Bool.{false}
use Prim.Native.Nat.{ℕ, ◌≤◌, ◌<◌}
use native.Mathlib.Omega.{arith}
use lib.ListN.{length}
use Rattle.laws.specs.Extremes.{Least}
use Rattle.depth.specs.declared.Stretch.{Stretch}
use Rattle.depth.specs.declared.Column.{Column}
use Rattle.depth.specs.declared.Column.TheVariants.{A}
use Rattle.depth.specs.declared.Try.{Try}
use Rattle.depth.specs.declared.Finding.TheVariants.{Stays, Moves}
use Rattle.depth.specs.declared.DepthFigures.{DepthFigures}
use Rattle.depth.specs.Squat.{none, column_number, squat_reading}
use Rattle.depth.specs.Depth.{z3, sailing, sailing_with, natural_of, own_column, Serves, Meets, Figures, AsDefined, Ranges, depth_number}
use Rattle.depth.specs.Worksheet.{silt, figure, column_try, finding_of, is_move, moves_on, tries, last_try, answer_by, answer_of, work_depth, Forward, Followed, Counted}
use Rattle.depth.proofs.squat.Columns.{column_most, reading_most, column_up, same_column}
use Rattle.depth.proofs.squat.Table.{squat_some}
use Rattle.depth.proofs.walks.Findings.{Says, finding_says, not_within, fault_known}
use Rattle.depth.proofs.cuts.Easier.{serves_earlier}
use Rattle.depth.proofs.cuts.Settling.{silt_stays, figure_is, silt_is, figure_under, silt_under}
use Rattle.depth.proofs.walks.Tries.{tries_count}
use Rattle.depth.proofs.walks.Following.{walk_followed}
use Rattle.depth.proofs.walks.Ending.{Tells, Ends, Walked, walk_right}
use Rattle.depth.specs.declared.Finding.{Finding}
use Rattle.depth.specs.declared.DepthFault.{DepthFault}

module _ (q : Stretch) where
  -- what a try says that ends this stretch's worksheet
  abbrev EndsIt : Try → Result Finding DepthFault → Type 0
  EndsIt = Ends (own_column q) (Serves q) (Meets q) (column_try q)

  -- a column's figure is the least cut it serves, where it serves any
  figure_least : (c : Column) → z3 q c < none → silt q c ≤ 120 → Least (Serves q c) (figure q c)
  figure_least c e s =
      let l = silt_stays q c (omega arith) in
      record {
        holds = record { entry = e; silt = omega (arith, silt_is q c l); deep = (figure_is q c l).holds };
        least = λ d v. (figure_is q c l).least d v.deep;
      }

  figure_some : (c : Column) → 1 ≤ figure q c
  unfolding figure sailing sailing_with z3
  figure_some c = omega (arith, squat_some (column_number c) (squat_reading q.lanes) (column_most c) (reading_most q.lanes) q.speed)

  pub served_some : (c : Column) (d : ℕ) → Serves q c d → 1 ≤ d
  served_some c d v = omega (arith, figure_some c, figure_under q c d v.deep)

  line_tells : (c : Column) (f : Result Finding DepthFault) → Says (column_try q c) f → Tells (own_column q) (Serves q) (Meets q) (column_try q) c (column_try q c) f
  unfolding column_try
  line_tells c (Ok Stays) s =
      let l = figure_least c s.0.entry s.0.silt in
      let e : own_column q (figure q c) ≡ c = same_column _ _ s.1 in (
        l,
        record { from = figure_some c; to = omega (arith, s.0.to); served = rw e l.holds },
        e,
      )
  line_tells c (Ok Moves) s = (figure_least c s.0.entry s.0.silt, refl, s.1)
  line_tells c (Err fault) s = λ d v m.
      not_within (column_try q c) fault s (record {
        entry = v.entry;
        silt = omega (arith, silt_under q c d v.deep, v.silt);
        to = omega (arith, figure_under q c d v.deep, m.to);
      })

  line_column : (c : Column) → (column_try q c).column ≡ c
  unfolding column_try
  line_column c = refl

  walked : Walked (own_column q) (Serves q) (Meets q) (column_try q) (tries q)
  unfolding tries
  walked =
      walk_right (own_column q) (Serves q) (Meets q) (column_try q) (column_up (natural_of q)) (serves_earlier q) (λ d m. m.served) line_column
      (λ c. line_tells c (finding_of (column_try q c)) (finding_says (column_try q c)))

  pub tries_forward : Forward (tries q)
  tries_forward = walked.forward

  answer_as_defined : (t : Try) (f : Result Finding DepthFault) (columns : ℕ) → EndsIt t f → AsDefined q (answer_by f t columns)
  unfolding column_try
  answer_as_defined t (Ok Stays) columns e = record { cut = e.0; sailing_depth = ap (λ (u : Try). u.sailing.0) e.1 }
  answer_as_defined t (Ok Moves) columns e = absurd e
  answer_as_defined t (Err fault) columns e = e

  pub work_as_defined : AsDefined q (work_depth q)
  unfolding work_depth answer_of
  work_as_defined = answer_as_defined (last_try (tries q)) (finding_of (last_try (tries q))) (length (tries q)) walked.ends

  answer_counted : (t : Try) (f : Result Finding DepthFault) → Counted q (answer_by f t (length (tries q)))
  answer_counted t (Ok Stays) = refl
  answer_counted t (Ok Moves) = tt
  answer_counted t (Err fault) = tt

  pub work_counted : Counted q (work_depth q)
  unfolding work_depth answer_of
  work_counted = answer_counted (last_try (tries q)) (finding_of (last_try (tries q)))

  -- the worksheet ends because its last try does not move
  no_move : (t : Try) (f : Result Finding DepthFault) → EndsIt t f → is_move f ≡ false
  no_move t (Ok Stays) e = refl
  no_move t (Ok Moves) e = absurd e
  no_move t (Err fault) e = refl

  pub last_stops : moves_on (last_try (tries q)) ≡ false
  unfolding moves_on
  last_stops = no_move (last_try (tries q)) (finding_of (last_try (tries q))) walked.ends

  pub tries_followed : Followed (column_try q) A (tries q)
  unfolding tries
  tries_followed = walk_followed (column_try q) 2 A last_stops

  answered_when : (r : Result DepthFigures DepthFault) → AsDefined q r → (depth_number r ≡ 0) ↔ ((d : ℕ) × Meets q d)
  answered_when (Ok f) a = ((λ e. (f.cut.0, a.cut.holds)), (λ m. refl))
  answered_when (Err fault) a = ((λ e. absurd (omega (arith, fault_known fault))), (λ m. absurd (a m.0 m.1)))

  pub zero_exactly : (depth_number (work_depth q) ≡ 0) ↔ ((d : ℕ) × Meets q d)
  zero_exactly = answered_when (work_depth q) work_as_defined

  -- what a caller may count on of the figures
  module _ (f : DepthFigures) (is : work_depth q ≡ Ok f) where
    figures_defined : Figures q f
    figures_defined = subst (AsDefined q) is work_as_defined

    pub figures_ranges : Ranges f
    figures_ranges =
        let m = figures_defined.cut.holds in
        let n : f.columns ≡ length (tries q) = subst (Counted q) is work_counted in
        record {
          cut_from = m.from;
          cut_to = m.to;
          sailing_to = omega (arith, m.served.deep, figures_defined.sailing_depth);
          columns_from = omega (arith, tries_count q);
          columns_to = omega (arith, tries_count q);
        }
