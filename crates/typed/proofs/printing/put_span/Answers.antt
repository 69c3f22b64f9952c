-- `typed::printing::put_span` meets its contract: a line, ` .. ` behind it, the other line behind that.
use native.Mathlib.Omega.{arith}
use Rattle.lines.proofs.putting.Placing.{put_on}
use Rattle.typed.specs.Lines.{span_text}
use Rattle.typed.proofs.printing.put_span.Goals as goal

pub returns : goal.returns
unfolding span_text
returns c =
    let line = c.put_row-first.ensures.0 in
    put_on (put_on line (c.put-second.ensures.put (omega arith)) (omega arith)) c.put_row.ensures.0 (omega arith)
