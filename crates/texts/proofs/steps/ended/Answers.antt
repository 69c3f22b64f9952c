-- `texts::steps::ended` meets its contract: what is missing is told, on the line behind the last.
use Rattle.texts.specs.Texts.{ended_at}
use Rattle.texts.proofs.steps.ended.Goals as goal

pub returns : goal.returns
unfolding ended_at
returns c = rw (c.missing_at.ensures, c.next_number.ensures)
