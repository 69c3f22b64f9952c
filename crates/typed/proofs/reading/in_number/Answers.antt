-- `typed::reading::in_number` meets its contract: a byte of the range, one below it and one above.
use native.Mathlib.Omega.{arith}
use borrow.Author.Tests.{lt-ltb, le-ltb, le-leb, lt-leb}
use Rattle.typed.specs.Reading.{in_number}
use Rattle.typed.proofs.reading.in_number.Goals as goal

pub returns-in-46-to-57 : goal.returns-in-46-to-57
unfolding in_number
returns-in-46-to-57 c = rw (le-ltb c.args.byte 46 (omega arith), le-leb c.args.byte 57 (omega arith))

pub returns-in_default : goal.returns-in_default
unfolding in_number
returns-in_default c = rw (lt-ltb c.args.byte 46 (omega arith))

pub returns-in_default-2 : goal.returns-in_default-2
unfolding in_number
returns-in_default-2 c = rw (le-ltb c.args.byte 46 (omega arith), lt-leb c.args.byte 57 (omega arith))
