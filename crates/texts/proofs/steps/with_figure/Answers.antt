-- `texts::steps::with_figure` meets its contract: each way out is a case of `stored`.
use borrow.Author.Tests.{lt-ltb, le-ltb, eq-eqb, ne_eqb}
use Rattle.texts.specs.Steps.{stored}
use Rattle.texts.proofs.steps.with_figure.Goals as goal

pub returns-then-k-lt-LEVEL : goal.returns-then-k-lt-LEVEL
unfolding stored
returns-then-k-lt-LEVEL c = rw (lt-ltb _ _ c.if-k-lt-LEVEL.true)

pub returns-then-figure-eq0 : goal.returns-then-figure-eq0
unfolding stored
returns-then-figure-eq0 c = rw (le-ltb _ _ c.if-k-lt-LEVEL.false, eq-eqb _ _ c.if-k-eq-LEVEL.true, eq-eqb _ _ c.if-figure-eq0.true, c.if-figure-eq0.true)

pub returns-then-k-eq-LEVEL : goal.returns-then-k-eq-LEVEL
unfolding stored
returns-then-k-eq-LEVEL c = rw (le-ltb _ _ c.if-k-lt-LEVEL.false, eq-eqb _ _ c.if-k-eq-LEVEL.true, ne_eqb _ _ c.if-figure-eq0.false)

pub returns-then-k-eq27 : goal.returns-then-k-eq27
unfolding stored
returns-then-k-eq27 c = rw (le-ltb _ _ c.if-k-lt-LEVEL.false, ne_eqb _ _ c.if-k-eq-LEVEL.false, eq-eqb _ _ c.if-k-eq27.true)

pub returns : goal.returns
unfolding stored
returns c = rw (le-ltb _ _ c.if-k-lt-LEVEL.false, ne_eqb _ _ c.if-k-eq-LEVEL.false, ne_eqb _ _ c.if-k-eq27.false)
