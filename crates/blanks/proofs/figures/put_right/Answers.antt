-- `blanks::figures::put_right` meets its contract: the spaces that the bytes lack, and the bytes behind them.
use native.Mathlib.Omega.{arith}
use lib.ListN.{length-take}
use Rattle.blanks.proofs.meaning.Columns.{right_put}
use Rattle.blanks.proofs.figures.put_right.Goals as goal

pub returns : goal.returns
returns c =
    let a = c.args in
    let short = length-take a.bytes a.columns in
    let text = c.put.ensures.put (omega (arith, short)) in
    let last = c.put.ensures.bound (omega (arith, short)) in
    let p = right_put a.width a.bytes a.columns (omega arith) (rw c.saturating_sub.ensures at c.put_spaces-start.ensures.0) text (omega arith) in
    (p, omega (arith, short, last))
