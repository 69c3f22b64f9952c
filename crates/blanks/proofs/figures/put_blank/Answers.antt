-- `blanks::figures::put_blank` meets its contract: a word from the left, every other figure from the right.
use Rattle.blanks.specs.Blanks.{figure_text, blank_text}
use Rattle.blanks.proofs.meaning.Columns.{put_first, at_the_right}
use Rattle.blanks.proofs.figures.put_blank.Goals as goal

pub returns-in-Word : goal.returns-in-Word
unfolding blank_text figure_text
returns-in-Word c =
    let p = c.put_left.ensures in
    (rw c.in-Word.is p.0, p.1)

pub returns : goal.returns
returns c =
    let a = c.args in
    let p = c.put_right.ensures in
    (rw (at_the_right a.words.now a.width a.figure c.in_default.not-Word) (rw (put_first c.put_figure-bytes.ensures.0) at p.0), p.1)
