-- `plan::put_numbers` meets its contract: after i numbers stand their bytes, then what stood there before.
use Prim.Native.Nat.{◌*◌}
use mathlib.Core.Path.{◌≡◌}
use mathlib.Core.List.{◌++◌}
use lib.ListN.{length, take, drop}
use Rattle.design.specs.Numbers.{number_count}
use Rattle.plan.specs.Words.{bytes_of_numbers}
use Rattle.plan.proofs.put_numbers.Given as goal

abbrev pub invariant-loop-i : goal.invariant-loop-i
invariant-loop-i l = (length l.place ≡ length l.initial.place) × (l.place ≡ bytes_of_numbers (take l.i l.numbers) ++ drop (4 * l.i) l.initial.place) × (length l.numbers ≡ number_count)
