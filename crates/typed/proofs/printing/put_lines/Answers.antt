-- `typed::printing::put_lines` meets its contract: a way out for words, one for a level and one for the other kinds.
use native.Mathlib.Omega.{arith}
use Rattle.lines.proofs.putting.Placing.{put_on}
use Rattle.typed.proofs.printing.Expected.{lines_by_lem, lines_span}
use Rattle.typed.proofs.printing.put_lines.Goals as goal

pub returns-in-Words : goal.returns-in-Words
returns-in-Words c =
    let a = c.args in
    rw (lines_by_lem a.row a.values c.in-Words.is) (put_on c.put_row-first.ensures.0 c.put_words.ensures (omega arith))

pub returns-in-Level : goal.returns-in-Level
returns-in-Level c =
    let a = c.args in
    rw (lines_by_lem a.row a.values c.in-Level.is)
    (put_on (put_on c.put_row-record.ensures.0 (c.put-given.ensures.put (omega arith)) (omega arith)) c.put_span.ensures (omega arith))

pub returns-in_default : goal.returns-in_default
returns-in_default c =
    let a = c.args in
    rw (lines_span a.row a.values c.in_default.not-Words c.in_default.not-Level)
    c.put_span-in_default.ensures
