-- `worksheet::framing::name_end` meets its contract: the whole name, or as much of it as is shown.
use mathlib.Core.Path.{refl}
use native.Mathlib.Omega.{arith}
use borrow.Author.Tests.{le-leb, lt-leb}
use Rattle.worksheet.specs.Framing.{name_end}
use Rattle.worksheet.proofs.framing.name_end.Goals as goal

pub returns-then-name-le-NAME : goal.returns-then-name-le-NAME
unfolding name_end
returns-then-name-le-NAME c = rw (le-leb _ _ c.if-name-le-NAME.true) (refl, (omega arith, omega arith))

pub returns : goal.returns
unfolding name_end
returns c = rw (lt-leb _ _ c.if-name-le-NAME.false) (c.whole_to.ensures.0, (omega arith, omega arith))
