-- `texts::next` meets its contract. The loop's invariant: what is found from here on is what is found. The measure is what is left of the text.
use Prim.Native.Nat.{◌-◌}
use mathlib.Core.Path.{◌≡◌}
use lib.ListN.{length}
use Rattle.texts.specs.Texts.{next_of}
use Rattle.texts.proofs.next.Given as goal

abbrev pub invariant-loop-now : goal.invariant-loop-now
invariant-loop-now l = next_of l.text l.now ≡ next_of l.text l.initial.now

abbrev pub decreases-loop-now : goal.decreases-loop-now
decreases-loop-now l = length l.text - l.now.at
