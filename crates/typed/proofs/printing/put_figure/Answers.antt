-- `typed::printing::put_figure` meets its contract: an arm for each kind of row.
use native.Mathlib.Omega.{arith}
use Rattle.typed.proofs.printing.Figures.{figure_by_lem}
use Rattle.typed.proofs.printing.put_figure.Goals as goal

pub returns-in-Whole : goal.returns-in-Whole
returns-in-Whole c =
    let a = c.args in
    let p = c.put_count.ensures.put (omega arith) in
    (rw (figure_by_lem a.row a.figure c.in-Whole.is) p, omega arith)

pub returns-in-Tenths : goal.returns-in-Tenths
returns-in-Tenths c =
    let a = c.args in
    let p = c.put_tenths.ensures in
    (rw (figure_by_lem a.row a.figure c.in-Tenths.is) p.0, omega arith)

pub returns-in-Hundredths : goal.returns-in-Hundredths
returns-in-Hundredths c =
    let a = c.args in
    let p = c.put_hundredths.ensures in
    (rw (figure_by_lem a.row a.figure c.in-Hundredths.is) p.0, omega arith)

pub returns-in-Words : goal.returns-in-Words
returns-in-Words c =
    let a = c.args in
    let p = c.put_word.ensures in
    (rw (figure_by_lem a.row a.figure c.in-Words.is) p.0, p.1)

pub returns-in-Level : goal.returns-in-Level
returns-in-Level c =
    let a = c.args in
    let p = c.put_level.ensures in
    (rw (figure_by_lem a.row a.figure c.in-Level.is) p.0, p.1)
