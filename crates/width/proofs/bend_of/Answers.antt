-- `width::bend_of` meets its contract: a bend that is widened is long enough.
use Rattle.width.proofs.bends.Ways.{long_enough}
use Rattle.width.proofs.bend_of.Goals as goal

pub widening-requires : goal.widening-requires
widening-requires c =
    long_enough _ _ _ c.args.knots c.args.lanes c.if-turn-eq0.false _ c.least_lengths.ensures c.if-reach-least_lengths.false c.if-reach-ship.true
