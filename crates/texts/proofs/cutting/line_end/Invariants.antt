-- `texts::cutting::line_end` meets its contract. The loop's invariant: the bytes passed are of the line.
use Prim.Native.Nat.{◌+◌}
use mathlib.Core.Path.{◌≡◌}
use lib.ListN.{length, drop}
use Rattle.texts.specs.Cutting.{line_of}
use Rattle.texts.proofs.cutting.line_end.Given as goal

abbrev pub invariant-loop-before : goal.invariant-loop-before
invariant-loop-before l = l.before + length (line_of (drop l.before (drop l.from l.text))) ≡ length (line_of (drop l.from l.text))
