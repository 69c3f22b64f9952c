-- `texts::showing::put_sheet` meets its contract: the word, the index, a newline, and what the bytes are read as.
use native.Mathlib.Omega.{arith}
use Rattle.lines.proofs.putting.Placing.{put_on}
use Rattle.texts.specs.Shown.{shown_text}
use Rattle.texts.proofs.showing.put_sheet.Goals as goal

pub returns : goal.returns
unfolding shown_text
returns c =
    let rows = rw c.read.ensures at c.put_read.ensures in
    put_on (put_on (put_on (c.put-first.ensures.put (omega arith)) (c.put_count-end.ensures.put (omega arith)) (omega arith)) (c.put-rows.ensures.put (omega arith)) (omega arith)) rows (omega arith)
