-- `texts::steps::field_of` meets its contract: each way out is a case of `field_of`.
use borrow.Author.Tests.{lt-ltb, le-ltb}
use Rattle.texts.specs.Steps.{field_of}
use Rattle.texts.proofs.steps.field_of.Goals as goal

pub returns-then-k-lt-LEVEL : goal.returns-then-k-lt-LEVEL
unfolding field_of
returns-then-k-lt-LEVEL c = rw (lt-ltb _ _ c.if-k-lt-LEVEL.true)

pub returns-then-k-lt-COUNT : goal.returns-then-k-lt-COUNT
unfolding field_of
returns-then-k-lt-COUNT c = rw (le-ltb _ _ c.if-k-lt-LEVEL.false, lt-ltb _ _ c.if-k-lt-COUNT.true)

pub returns : goal.returns
unfolding field_of
returns c = rw (le-ltb _ _ c.if-k-lt-LEVEL.false, le-ltb _ _ c.if-k-lt-COUNT.false)
