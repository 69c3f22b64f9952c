-- What the plain engine comes to: the definition itself, with no word of a search and none of a worksheet.
use Rattle.std.specs.Prelude.{◌≡◌, ℕ, Result, Ok, Err}
use Rattle.laws.specs.Extremes.{Least}
use Rattle.depth.specs.declared.Stretch.{Stretch}
use Rattle.depth.specs.declared.DepthFault.{DepthFault}
use Rattle.depth.specs.Depth.{sailing, own_column, Meets}
use Rattle.depth.specs.Reasons.{FirstUnusable}
use Rattle.engine.specs.declared.PlainFigures.{PlainFigures}

-- the cut is the least that meets the definition, and the s of its column is the sailing depth
pub record LeastMet (q : Stretch) (f : PlainFigures) : Type 0 where
  pub cut : Least (Meets q) f.cut.0
  pub sailing_depth : f.sailing.0 ≡ sailing q (own_column q f.cut.0)

-- no cut meets it, and the first column that cannot be used fails by this test and by none before it
pub record NoneMet (q : Stretch) (fault : DepthFault) : Type 0 where
  pub none : (d : ℕ) → ¬ Meets q d
  pub reason : FirstUnusable q fault

-- a depth as the definition reads
abbrev pub AsRead : Stretch → Result PlainFigures DepthFault → Type 0
AsRead q (Ok f) = LeastMet q f
AsRead q (Err fault) = NoneMet q fault
