-- `texts::steps::missing_at` meets its contract: only within a sheet is something missing.
use Rattle.texts.proofs.steps.missing_at.Goals as goal

pub returns-in-InRow : goal.returns-in-InRow
returns-in-InRow c = rw c.in-InRow.is
