-- `blanks::figures::put_word` meets its contract: nothing past the table, else the word's bytes without the spaces at its end.
use Prim.Native.Nat.{◌+◌, ◌*◌, ◌-◌}
use native.Mathlib.Omega.{arith}
use lib.ListN.{drop, length-take}
use Rattle.lines.proofs.putting.Placing.{put_none}
use Rattle.blanks.proofs.meaning.Columns.{no_word, word_part}
use Rattle.blanks.proofs.figures.put_word.Goals as goal

pub returns-then-words-i : goal.returns-then-words-i
returns-then-words-i c = (rw (no_word _ _ c.if-words-i.true) put_none, omega arith)

pub returns : goal.returns
returns c =
    let a = c.args in
    let p = rw (word_part a.words.now a.i c.if-words-i.false) at c.put_trimmed.ensures in
    (p.0, omega (arith, p.1, length-take (24 * a.i + 24 - 24 * a.i) (drop (24 * a.i) a.words.now)))
