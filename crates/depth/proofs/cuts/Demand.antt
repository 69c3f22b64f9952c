-- Demand 3 for the depth, by one argument: what meets the definition for a stretch that is harder by k cm of draft and wave allowance meets it
-- k cm higher for the other, so the least cut is deeper by k or more and no refusal is cured.
use Rattle.std.specs.Prelude.{Result, Ok, Err}
use mathlib.Core.Path.{◌≡◌, subst}
use Prim.Native.Nat.{ℕ, ◌+◌, ◌-◌, ◌≤◌}
use native.Mathlib.Omega.{arith}
use Rattle.laws.proofs.Extremes.{least_grows}
use Rattle.depth.specs.declared.Stretch.{Stretch}
use Rattle.depth.specs.Depth.{natural_of, own_column, Serves, Meets, AsDefined}
use Rattle.depth.specs.Worksheet.{work_depth}
use Rattle.depth.specs.Harder.{Harder, Deeper, NeverCured}
use Rattle.depth.proofs.squat.Columns.{column_up}
use Rattle.depth.proofs.cuts.Easier.{table_speed, serves_easier}
use Rattle.depth.proofs.cuts.LeastCut.{served_some, work_as_defined}
use Rattle.depth.specs.declared.DepthFigures.{DepthFigures}
use Rattle.depth.specs.declared.DepthFault.{DepthFault}

module _ (q q' : Stretch) (h : Harder q q') (k : ℕ) (hk : q.draft + q.allowance + k ≤ q'.draft + q'.allowance) where
  module _ (from : 2 ≤ q.speed) where
    pub meets_higher : (d : ℕ) → Meets q' d → (k ≤ d) × Meets q (d - k)
    meets_higher d m =
        let up = column_up (natural_of q) (d - k) d (omega arith) in
        let v : Serves q (own_column q (d - k)) (d - k) =
        serves_easier q q' h from k hk (own_column q (d - k)) (own_column q d) up d (rw (← h.natural) m.served) in
        let g : 1 ≤ d - k = served_some q _ _ v in
        (omega arith, record { from = g; to = omega (arith, m.to); served = v })

    never_cured : (r r' : Result DepthFigures DepthFault) → AsDefined q r → AsDefined q' r' → NeverCured r r'
    never_cured (Ok f) r' a a' = tt
    never_cured (Err fault) (Ok f') a a' = a (f'.cut.0 - k) (meets_higher f'.cut.0 a'.cut.holds).1
    never_cured (Err fault) (Err fault') a a' = tt

    pub work_never_cured : NeverCured (work_depth q) (work_depth q')
    work_never_cured = never_cured (work_depth q) (work_depth q') (work_as_defined q) (work_as_defined q')

  -- an answered stretch has a speed of the table
  deeper : (r r' : Result DepthFigures DepthFault) → AsDefined q r → AsDefined q' r' → Deeper k r r'
  deeper (Ok f) (Ok f') a a' =
      least_grows (Meets q) (Meets q') k f.cut.0 f'.cut.0 (meets_higher (table_speed q _ a.cut.holds.served.entry)) a.cut a'.cut
  deeper (Ok f) (Err fault) a a' = tt
  deeper (Err fault) (Ok f') a a' = tt
  deeper (Err fault) (Err fault') a a' = tt

  pub work_deeper : Deeper k (work_depth q) (work_depth q')
  work_deeper = deeper (work_depth q) (work_depth q') (work_as_defined q) (work_as_defined q')

-- with nothing more of draft and allowance, at the same cut
pub meets_too : (q q' : Stretch) → Harder q q' → 2 ≤ q.speed → (d : ℕ) → Meets q' d → Meets q d
meets_too q q' h from d m =
    subst (Meets q) (let same : d - 0 ≡ d = omega arith in same) (meets_higher q q' h 0 (omega arith) from d m).1
