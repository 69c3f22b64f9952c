-- `typed::printing::put_behind` meets its contract: nothing where there is no unit, else a space and the unit's token.
use native.Mathlib.Omega.{arith}
use lib.ListN.{length-set}
use Rattle.lines.proofs.putting.Placing.{put_none, byte_then}
use Rattle.typed.proofs.printing.Units.{behind_none, behind_some}
use Rattle.typed.proofs.printing.put_behind.Goals as goal

pub returns-then-unit-eq-SPACE : goal.returns-then-unit-eq-SPACE
returns-then-unit-eq-SPACE c = (rw (behind_none _ c.if-unit-eq-SPACE.true) put_none, omega arith)

pub returns : goal.returns
returns c =
    let p = c.put_token.ensures in
    (rw (behind_some _ c.if-unit-eq-SPACE.false) (byte_then p.0 (omega arith)), omega arith)

pub put_token-requires : goal.put_token-requires
put_token-requires c = simp length-set (omega arith)

pub shape_of-buffer : goal.shape_of-buffer
shape_of-buffer c = let a = c.args in omega (arith, length-set a.buffer.now a.at 32)
