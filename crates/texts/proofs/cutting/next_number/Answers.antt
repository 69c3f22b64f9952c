-- `texts::cutting::next_number` meets its contract: a sum that stops at the greatest number of 32 bits.
use mathlib.Core.Path.{◌∙◌}
use native.Mathlib.Omega.{arith}
use Rattle.texts.proofs.cutting.Lines.{next_is}
use Rattle.texts.proofs.cutting.next_number.Goals as goal

pub returns : goal.returns
returns c = c.saturating_add.ensures ∙ next_is c.args.lines (omega arith)
