-- `lines::places` meets its contract. The loop's invariant: the count has the places passed and those of what is left.
use Prim.Native.Nat.{◌+◌, ◌≤◌}
use mathlib.Core.Path.{◌≡◌}
use lib.ListN.{length}
use Rattle.lines.specs.Decimals.{digits}
use Rattle.lines.proofs.within.places.Given as goal

abbrev pub invariant-loop-rest : goal.invariant-loop-rest
invariant-loop-rest l = (length (digits l.count) ≡ l.places + length (digits l.rest)) × (length (digits l.count) ≤ 20)

abbrev pub decreases-loop-rest : goal.decreases-loop-rest
decreases-loop-rest l = l.rest
