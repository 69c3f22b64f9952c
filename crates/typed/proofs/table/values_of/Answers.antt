-- `typed::table::values_of` meets its contract: a way out before the level's row, at it, behind it and past the rows.
use mathlib.Core.Path.{◌∙◌}
use native.Mathlib.Omega.{arith}
use Rattle.typed.proofs.table.Values.{before_level, at_level, behind_level, past_rows}
use Rattle.typed.proofs.table.values_of.Goals as goal

pub returns-then-i-lt-LEVEL : goal.returns-then-i-lt-LEVEL
returns-then-i-lt-LEVEL c = c.range_of.ensures ∙ before_level _ (omega arith)

pub returns-then-i-eq-LEVEL : goal.returns-then-i-eq-LEVEL
returns-then-i-eq-LEVEL c = at_level _ (omega arith)

pub returns-then-i-lt-COUNT : goal.returns-then-i-lt-COUNT
returns-then-i-lt-COUNT c = c.range_of-then-i-lt-COUNT.ensures ∙ behind_level _ (omega arith) (omega arith)

pub returns : goal.returns
returns c = past_rows _ (omega arith)
