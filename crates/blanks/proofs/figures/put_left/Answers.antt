-- `blanks::figures::put_left` meets its contract: the word, and the spaces that it lacks behind it.
use native.Mathlib.Omega.{arith}
use Rattle.blanks.proofs.meaning.Columns.{left_put}
use Rattle.blanks.proofs.figures.put_left.Goals as goal

pub returns : goal.returns
returns c =
    let width = c.args.width in
    let p = left_put width c.put_word-end.ensures.0 (rw c.saturating_sub.ensures at c.put_spaces.ensures.0) (omega arith) in
    (p, omega arith)
