-- `typed::printing::put_row` meets its contract: the name, the figure behind it, the unit behind that.
use native.Mathlib.Omega.{arith}
use Rattle.lines.proofs.putting.Placing.{put_on}
use Rattle.typed.specs.Lines.{front_text, row_text}
use Rattle.typed.proofs.printing.put_row.Goals as goal

pub returns : goal.returns
unfolding row_text front_text
returns c =
    let name = c.put_name-first.ensures.0 in
    (put_on (put_on name c.put_figure-second.ensures.0 (omega arith)) c.put_unit.ensures.0 (omega arith), omega arith)
