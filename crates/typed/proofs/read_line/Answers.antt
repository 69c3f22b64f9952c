-- `typed::read_line` meets its contract: the row is the one of its number.
use Rattle.typed.specs.Reading.{entry_of}
use Rattle.typed.proofs.read_line.Goals as goal

pub returns : goal.returns
unfolding entry_of
returns c = rw c.row_at.ensures at c.read_row.ensures
