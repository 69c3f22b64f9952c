-- `sheet::bits::split` meets its contract: it begins with no field and goes on to the last, and holds the spare bits then.
use mathlib.Core.Path.{refl}
use Rattle.sheet.proofs.bits.Splitting.{split_start, split_all}
use Rattle.sheet.proofs.bits.split.Goals as goal

pub split_on-of_ten-requires-clause-split_to : goal.split_on-of_ten-requires-clause-split_to
split_on-of_ten-requires-clause-split_to c = split_start _ _ refl

pub returns : goal.returns
returns c = let all = split_all _ _ _ c.split_on-of_all.ensures in (all.figures, all.rest)
