-- `texts::showing::put_rows` meets its contract. The loop's invariant: the lines of the rows passed stand.
use Prim.Native.Nat.{◌+◌, ◌*◌, ◌≤◌}
use Rattle.typed.specs.Rows.{count}
use Rattle.texts.specs.Shown.{rows_text}
use Rattle.texts.proofs.showing.Rows.{Rowed}
use Rattle.texts.proofs.showing.put_rows.Given as goal

abbrev pub invariant-loop-i : goal.invariant-loop-i
invariant-loop-i l = (l.end ≤ l.at + 85 * l.i) × Rowed (rows_text l.figures 0 count) (rows_text l.figures) l.initial.buffer l.at l.i l.buffer l.end
