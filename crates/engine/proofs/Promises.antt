-- What the plain engine promises (section 16.1): it is the definition, read straight.
use Rattle.std.specs.Prelude.{Result}
use mathlib.Core.Path.{◌≡◌}
use mathlib.Core.List.{List}
use Prim.Native.Nat.{ℕ}
use Rattle.laws.proofs.Unique.{one_answer}
use Rattle.depth.specs.declared.Stretch.{Stretch}
use Rattle.engine.specs.Plain.{plain_depth}
use Rattle.engine.specs.Meaning.{AsRead}
use Rattle.engine.specs.Numbers.{plain_numbers}
use Rattle.engine.proofs.Straight as straight
use Rattle.engine.proofs.OneReading.{one_reading}
use Rattle.engine.specs.declared.PlainFigures.{PlainFigures}
use Rattle.depth.specs.declared.DepthFault.{DepthFault}

-- Its cut is the least that meets the definition, and the s of that cut's column is its sailing depth; where it has none, no cut meets the definition, and its
-- refusal is that of the first column that cannot be used.
pub read_straight : (q : Stretch) → AsRead q (plain_depth q)
read_straight = straight.read_straight

-- Nothing else is the definition, read straight.
pub no_other_read : (q : Stretch) (r : Result PlainFigures DepthFault) → AsRead q r → r ≡ plain_depth q
no_other_read q r a = one_reading q r (plain_depth q) a (straight.read_straight q)

-- Each call has one result.
pub one_plain_depth : (q : Stretch) (r s : Result PlainFigures DepthFault) → r ≡ plain_depth q → s ≡ plain_depth q → r ≡ s
one_plain_depth q = one_answer

pub plain_numbers_unique : (depth : Result PlainFigures DepthFault) (r s : List ℕ) → r ≡ plain_numbers depth → s ≡ plain_numbers depth → r ≡ s
plain_numbers_unique depth = one_answer
