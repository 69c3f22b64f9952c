-- `texts::steps::begin_step` meets its contract: the first row follows, and what is missing is told.
use Rattle.texts.specs.Steps.{begin_step}
use Rattle.texts.proofs.steps.begin_step.Goals as goal

pub returns : goal.returns
unfolding begin_step
returns c = rw c.missing_at.ensures
