-- `texts::row_figure` meets its contract: each way out is a case of `row_figure`.
use borrow.Author.Tests.{lt-ltb, le-ltb, eq-eqb, ne_eqb}
use Rattle.texts.specs.Shown.{row_figure}
use Rattle.texts.proofs.row_figure.Goals as goal

pub returns-then-i-lt-LEVEL : goal.returns-then-i-lt-LEVEL
unfolding row_figure
returns-then-i-lt-LEVEL c = rw (lt-ltb _ _ c.if-i-lt-LEVEL.true)

pub returns-then-figures-eq0 : goal.returns-then-figures-eq0
unfolding row_figure
returns-then-figures-eq0 c = rw (le-ltb _ _ c.if-i-lt-LEVEL.false, eq-eqb _ _ c.if-i-eq-LEVEL.true, eq-eqb _ _ c.if-figures-eq0.true)

pub returns-then-i-eq-LEVEL : goal.returns-then-i-eq-LEVEL
unfolding row_figure
returns-then-i-eq-LEVEL c = rw (le-ltb _ _ c.if-i-lt-LEVEL.false, eq-eqb _ _ c.if-i-eq-LEVEL.true, ne_eqb _ _ c.if-figures-eq0.false)

pub returns : goal.returns
unfolding row_figure
returns c = rw (le-ltb _ _ c.if-i-lt-LEVEL.false, ne_eqb _ _ c.if-i-eq-LEVEL.false)
