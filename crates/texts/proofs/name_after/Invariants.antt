-- `texts::name_after` meets its contract. The loop's invariant: the name from here on is the name. The measure is what is left of the text.
use Prim.Native.Nat.{◌-◌, ◌≤◌}
use mathlib.Core.Path.{◌≡◌}
use lib.ListN.{length}
use Rattle.texts.specs.Names.{name_after}
use Rattle.texts.proofs.meaning.Names.{name_at}
use Rattle.texts.proofs.name_after.Given as goal

abbrev pub invariant-loop-at : goal.invariant-loop-at
invariant-loop-at l = (l.at ≤ length l.text) × (name_at l.text l.at ≡ name_after l.text l.from)

abbrev pub decreases-loop-at : goal.decreases-loop-at
decreases-loop-at l = length l.text - l.at
