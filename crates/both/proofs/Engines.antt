-- The two engines agree: the worksheet's depth without its count is the definition, read straight, and nothing else is.
use Rattle.std.specs.Prelude.{Result, Ok, Err}
use mathlib.Core.Path.{◌≡◌, ap, sym, ◌∙◌, subst}
use Rattle.depth.specs.declared.Stretch.{Stretch}
use Rattle.depth.specs.Depth.{AsDefined, depth_number}
use Rattle.depth.specs.Worksheet.{work_depth}
use Rattle.depth.proofs.Promises.{depth_is_as_defined, number_exactly}
use Rattle.engine.specs.Plain.{plain_depth}
use Rattle.engine.specs.Meaning.{AsRead}
use Rattle.engine.proofs.Promises.{no_other_read}
use Rattle.both.specs.Both.{uncounted}
use Rattle.engine.specs.declared.PlainFigures.{PlainFigures}
use Rattle.depth.specs.declared.DepthFigures.{DepthFigures}
use Rattle.depth.specs.declared.DepthFault.{DepthFault}

module _ (q : Stretch) where
  -- a depth as it is defined, with its reason
  as_read : (r : Result DepthFigures DepthFault) → AsDefined q r → work_depth q ≡ r → AsRead q (uncounted r)
  as_read (Ok f) a e = record { cut = a.cut; sailing_depth = a.sailing_depth }
  as_read (Err fault) a e = record { none = a; reason = (number_exactly q fault).0 (ap depth_number e) }

  pub engines_agree : (worked : Result DepthFigures DepthFault) (plain : Result PlainFigures DepthFault) → worked ≡ work_depth q → plain ≡ plain_depth q → uncounted worked ≡ plain
  engines_agree worked plain w p =
      no_other_read q (uncounted worked) (as_read worked (subst (AsDefined q) (sym w) (depth_is_as_defined q)) (sym w)) ∙ sym p
