-- `typed::begins_with` meets its contract: the library's `starts_with` asks what `stands` asks.
use mathlib.Core.Path.{◌∙◌}
use Rattle.typed.proofs.reading.Standing.{stands_is}
use Rattle.typed.proofs.begins_with.Goals as goal

pub returns : goal.returns
returns c = c.starts_with.ensures.value ∙ stands_is _ _
