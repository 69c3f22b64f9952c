-- `texts::steps::line_step` meets its contract: a line that is passed over changes nothing.
use Rattle.texts.specs.Steps.{line_step}
use Rattle.texts.proofs.steps.line_step.Goals as goal

pub returns-then-passed_over : goal.returns-then-passed_over
unfolding line_step
returns-then-passed_over c = rw (← c.passed_over.ensures, c.if-passed_over.true)

pub returns : goal.returns
unfolding line_step
returns c = rw (← c.passed_over.ensures, c.if-passed_over.false) c.kept_step.ensures
