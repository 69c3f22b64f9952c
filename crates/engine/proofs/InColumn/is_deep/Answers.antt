-- `engine::InColumn::is_deep` meets its contract: the two parts are the definition's.
use Rattle.engine.specs.Plain.{deep}
use Rattle.engine.proofs.InColumn.is_deep.Goals as goal

pub returns : goal.returns
unfolding deep
returns c = rw (← c.sailing-s.ensures.0, ← c.silt_at-silt.ensures.0)
