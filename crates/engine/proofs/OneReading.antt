-- One depth is the definition, read straight: one cut is the least, and one column is the first that cannot be used.
use Rattle.std.specs.Prelude.{Result, Ok, Err}
use mathlib.Core.Path.{◌≡◌, sym, ap, ap₂, ◌∙◌}
use Prim.Native.Nat.{ℕ}
use Rattle.laws.proofs.Extremes.{least_only}
use Rattle.datum.specs.Datum.{below}
use Rattle.depth.specs.declared.Stretch.{Stretch}
use Rattle.depth.specs.declared.DepthFault.{DepthFault}
use Rattle.depth.specs.Depth.{sailing, own_column, Meets}
use Rattle.depth.proofs.Promises.{no_other_depth}
use Rattle.engine.specs.Meaning.{NoneMet, AsRead}
use Rattle.engine.specs.declared.PlainFigures.{PlainFigures}

module _ (q : Stretch) where
  one_fault : (f g : DepthFault) → NoneMet q f → NoneMet q g → f ≡ g
  one_fault f g a b =
      let same = no_other_depth q (Err f) a.none tt a.reason ∙ sym (no_other_depth q (Err g) b.none tt b.reason) in
      cc

  pub one_reading : (r s : Result PlainFigures DepthFault) → AsRead q r → AsRead q s → r ≡ s
  one_reading (Ok f) (Ok g) a b =
      let cut : f.cut.0 ≡ g.cut.0 = least_only (Meets q) f.cut.0 g.cut.0 a.cut b.cut in
      let s : f.sailing.0 ≡ g.sailing.0 = a.sailing_depth ∙ ap (λ (d : ℕ). sailing q (own_column q d)) cut ∙ sym b.sailing_depth in
      ap₂ (λ (d s : ℕ). Ok (record { cut = below d; sailing = below s })) cut s
  one_reading (Ok f) (Err fault) a b = absurd (b.none f.cut.0 a.cut.holds)
  one_reading (Err fault) (Ok g) a b = absurd (a.none g.cut.0 b.cut.holds)
  one_reading (Err f) (Err g) a b = ap Err (one_fault f g a b)
