-- `texts::showing::put_row` meets its contract: the line stands within its room, and a newline behind it.
use native.Mathlib.Omega.{arith}
use Rattle.lines.proofs.putting.Placing.{put_on}
use Rattle.texts.specs.Shown.{row_line}
use Rattle.texts.proofs.putting.Typed.{line_stands}
use Rattle.texts.proofs.showing.put_row.Goals as goal

pub put-requires : goal.put-requires
put-requires c = let line = line_stands _ _ _ _ c.put_line-end.ensures (omega arith) (omega arith) (omega arith) in omega arith

pub returns : goal.returns
unfolding row_line
returns c =
    let line = line_stands _ _ _ _ c.put_line-end.ensures (omega arith) (omega arith) (omega arith) in
    (put_on line.0 (c.put.ensures.put (omega arith)) (omega arith), omega arith)
