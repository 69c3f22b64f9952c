-- `typed::printing::put_blank_row` meets its contract: the name, `_` after it, the unit behind that.
use native.Mathlib.Omega.{arith}
use lib.ListN.{length-set}
use Rattle.lines.proofs.putting.Placing.{put_on, then_byte}
use Rattle.typed.specs.Lines.{blank_row}
use Rattle.typed.proofs.printing.put_blank_row.Goals as goal

pub shape_of-buffer : goal.shape_of-buffer
shape_of-buffer c = let g = c.put_name-first in omega (arith, length-set g.new.buffer g.result 95)

pub returns : goal.returns
unfolding blank_row
returns c =
    let name = c.put_name-first.ensures.0 in
    put_on (then_byte 95 name (omega arith)) c.put_unit.ensures.0 (omega arith)

pub put_unit-requires : goal.put_unit-requires
put_unit-requires c = simp length-set (omega arith)
