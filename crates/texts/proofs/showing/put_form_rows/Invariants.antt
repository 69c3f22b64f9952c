-- `texts::showing::put_form_rows` meets its contract. The loop's invariant: the rows passed stand behind the head.
use Prim.Native.Nat.{◌+◌, ◌*◌, ◌≤◌}
use Rattle.typed.specs.Rows.{count}
use Rattle.texts.specs.Shown.{form_rows}
use Rattle.texts.proofs.showing.Rows.{Rowed}
use Rattle.texts.proofs.showing.put_form_rows.Given as goal

abbrev pub invariant-loop-i : goal.invariant-loop-i
invariant-loop-i l = (l.end ≤ l.initial.end + 600 * l.i) × Rowed (form_rows 0 count) form_rows l.initial.buffer l.initial.end l.i l.buffer l.end
