-- `datum::datum_depth` meets its contract: the difference fits, so the machine's is that of ℤ.
use Rattle.std.proofs.Common.{ap, arith}
use Rattle.std.proofs.lemmas.Int.{ints}
use Rattle.datum.specs.Datum.{below_chart, datum_depth}
use Rattle.datum.proofs.datum_depth.Goals as goal

pub returns : goal.returns
unfolding datum_depth
returns c = ap below_chart (omega (arith, ints, c.above_chart.ensures))
