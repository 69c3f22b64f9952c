-- `worksheet::rows::put_pairs` meets its contract. The loop's invariant: the lines passed stand. The measure is the lines that are left.
use Prim.Native.Nat.{◌+◌, ◌*◌, ◌-◌, ◌≤◌}
use mathlib.Core.Path.{◌≡◌}
use lib.ListN.{length}
use Rattle.worksheet.specs.Rows.{pairs_text}
use Rattle.worksheet.proofs.Pairing.{Lined}
use Rattle.worksheet.proofs.rows.put_pairs.Given as goal

abbrev pub invariant-loop-i : goal.invariant-loop-i
invariant-loop-i l = (l.i ≤ 14) × (length l.buffer ≡ length l.initial.buffer) × (l.end ≤ l.at + 200 * l.i) × Lined 14 (pairs_text l.figures 0 14) (pairs_text l.figures) l.initial.buffer l.at l.i l.buffer l.end

abbrev pub decreases-loop-i : goal.decreases-loop-i
decreases-loop-i l = 14 - l.i
