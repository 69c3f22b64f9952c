-- `engine::meets_it` meets its contract: the column is the cut's own.
use Rattle.engine.specs.Plain.{meets}
use Rattle.engine.proofs.meets_it.Goals as goal

pub returns : goal.returns
unfolding meets
returns c = rw (c.of_cut.ensures.0, c.of_cut.ensures.1) at c.serves.ensures
