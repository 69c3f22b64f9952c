-- `typed::row_named` meets its contract: it looks at the rows in order. The loop's invariant: the line has the name of no row passed.
use mathlib.Core.Path.{◌≡◌}
use mathlib.Core.Bool.{false}
use Prim.Native.Nat.{ℕ, ◌<◌}
use Rattle.typed.specs.Reading.{named}
use Rattle.typed.proofs.row_named.Given as goal

abbrev pub invariant-loop-i : goal.invariant-loop-i
invariant-loop-i l = (k : ℕ) → k < l.i → named l.line k ≡ false
