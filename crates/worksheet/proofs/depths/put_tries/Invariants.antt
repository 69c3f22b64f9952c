-- `worksheet::depths::put_tries` meets its contract. The loop's invariant: the lines of the tries passed stand.
use Prim.Native.Nat.{◌+◌, ◌*◌, ◌≤◌}
use mathlib.Core.Path.{◌≡◌}
use lib.ListN.{length}
use Rattle.worksheet.proofs.Tries.{Tried}
use Rattle.worksheet.proofs.depths.put_tries.Given as goal

abbrev pub invariant-loop-i : goal.invariant-loop-i
invariant-loop-i l = (length l.buffer ≡ length l.initial.buffer) × (l.end ≤ l.at + 800 * l.i) × Tried l.fn.worksheet l.knots l.initial.buffer l.at l.i l.buffer l.end
