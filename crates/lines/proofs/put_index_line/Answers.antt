-- `lines::put_index_line` meets its contract: the index, the numbers behind it, those of the plain engine, the newline after them.
use native.Mathlib.Omega.{arith}
use Rattle.lines.proofs.putting.Placing.{put_on, then_byte}
use Rattle.lines.proofs.wholes.Longer.{line_by_parts}
use Rattle.lines.proofs.put_index_line.Goals as goal

pub returns : goal.returns
returns c =
    let a = c.args in
    rw (line_by_parts a.form a.index a.numbers a.plain) at
    (then_byte 10 (put_on (put_on c.put_count-first.ensures.0 c.put_numbers-middle.ensures.0 (omega arith)) c.put_plain-last.ensures.0 (omega arith)) (omega arith))
