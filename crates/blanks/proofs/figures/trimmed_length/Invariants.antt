-- `blanks::figures::trimmed_length` meets its contract. The loop's invariant: all behind the bytes left are spaces.
use Rattle.blanks.proofs.meaning.Trimming.{SpacesFrom}
use Rattle.blanks.proofs.figures.trimmed_length.Given as goal

abbrev pub invariant-loop-last : goal.invariant-loop-last
invariant-loop-last l = SpacesFrom l.word l.last
