-- `sheet::bits::split_on` meets its contract: between two steps the number of the bytes read is that of the groups given out, followed by the held bits.
use Rattle.sheet.specs.Regrouping.{SplitTo}
use Rattle.sheet.proofs.bits.split_on.Given as goal

abbrev pub invariant-loop-i : goal.invariant-loop-i
invariant-loop-i l = SplitTo l.bytes l.figures l.between l.i
