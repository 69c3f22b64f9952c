-- `typed::printing::put_unit` meets its contract: nothing behind a level off the record, else the row's unit.
use mathlib.Core.Path.{◌≡◌}
use native.Mathlib.Omega.{arith}
use Rattle.lines.proofs.putting.Placing.{put_none}
use Rattle.typed.specs.Lines.{unit_text, behind}
use Rattle.typed.proofs.printing.Units.{record_unit, given_unit, plain_unit}
use Rattle.typed.proofs.printing.put_unit.Goals as goal
use Rattle.typed.proofs.printing.put_unit.Goals.{in_default-via-in-Level+else-figure-eq0, in_default-via-in_default}

pub returns-in-Level : goal.returns-in-Level
returns-in-Level c =
    let a = c.args in
    (rw (record_unit a.row a.figure c.in-Level.is c.if-figure-eq0.true) put_none, omega arith)

pub returns-in_default : goal.returns-in_default
returns-in_default c =
    let a = c.args in
    let p = c.put_behind.ensures in
    let e : unit_text a.row a.figure ≡ behind a.row.unit =
    elim c.in_default.branch [
      | in_default-via-in-Level+else-figure-eq0 w ↦ given_unit a.row a.figure w.if-figure-eq0.false
      | in_default-via-in_default w ↦ plain_unit a.row a.figure w.in_default.not-Level
    ] in
    (rw e p.0, p.1)
