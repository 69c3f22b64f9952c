-- `datum::natural_depth` meets its contract: the sum fits 64 bits, so the machine's is that of ℤ, and what it is held within is the definition's.
use Rattle.std.proofs.Common.{◌≡◌, ap, arith, pos, ◌+ℤ◌, to_z, of_z, w64}
use Rattle.std.specs.Int.{int_max, int_min}
use Rattle.std.proofs.lemmas.Int.{ints, clamps}
use Rattle.datum.specs.Datum.{level_of, below, deepest, natural_depth}
use Rattle.datum.proofs.Natural.{clamped}
use Rattle.datum.proofs.natural_depth.Goals as goal

pub returns : goal.returns
unfolding natural_depth
returns c =
    let held : to_z w64 (of_z w64 c.clamp.result) ≡ int_max (pos 0) (int_min (c.args.bed.0 +ℤ level_of c.args.level) (pos deepest)) =
    omega (arith, ints, clamps, c.clamp.ensures.value, c.above_chart.ensures) in
    ap below (clamped (c.args.bed.0 +ℤ level_of c.args.level) held)
