-- `worksheet::framing::whole_to` meets its contract. The loop's invariant: the answer is that of the place it stands at.
use mathlib.Core.Path.{◌≡◌}
use Rattle.worksheet.specs.Framing.{whole_to}
use Rattle.worksheet.proofs.framing.whole_to.Given as goal

abbrev pub invariant-loop-before : goal.invariant-loop-before
invariant-loop-before l = whole_to l.name l.before ≡ whole_to l.name l.most
