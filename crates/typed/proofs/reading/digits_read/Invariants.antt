-- `typed::reading::digits_read` meets its contract. The loop's invariant: the digits that are left, behind the number so far, mean
-- what all do.
use mathlib.Core.Path.{◌≡◌}
use Prim.Native.Nat.{◌<◌}
use lib.ListN.{drop}
use Rattle.typed.specs.Reading.{digits_read}
use Rattle.typed.proofs.reading.digits_read.Given as goal

abbrev pub invariant-loop-byte : goal.invariant-loop-byte
invariant-loop-byte l = (digits_read l.value (drop l.byte-index l.bytes) ≡ digits_read 0 l.bytes) × (l.value < 1000000000)
