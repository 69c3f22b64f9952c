-- `typed::printing::put_word` meets its contract: nothing past the words, else the token of the word's place.
use native.Mathlib.Omega.{arith}
use Rattle.lines.proofs.putting.Placing.{put_none}
use Rattle.typed.proofs.printing.Figures.{no_word, word_part, word_end}
use Rattle.typed.proofs.printing.put_word.Goals as goal

pub returns-then-figure-ge-WORDS : goal.returns-then-figure-ge-WORDS
returns-then-figure-ge-WORDS c = let a = c.args in (rw (no_word a.words a.figure (omega arith)) put_none, omega arith)

pub returns : goal.returns
returns c =
    let a = c.args in
    let p = c.put_token.ensures in
    (rw (word_part a.words a.figure) at p.0, word_end a.words a.figure a.at p.1)
