-- `texts::cutting::passed_over` meets its contract. The loop's invariant: only blanks were passed.
use mathlib.Core.Path.{◌≡◌}
use lib.ListN.{drop}
use Rattle.texts.specs.Cutting.{passed_over}
use Rattle.texts.proofs.cutting.passed_over.Given as goal

abbrev pub invariant-loop-byte : goal.invariant-loop-byte
invariant-loop-byte l = passed_over (drop l.byte-index l.line) ≡ passed_over l.line
