-- `texts::steps::name_fault` meets its contract: each way out is a case of `name_fault`.
use borrow.Author.Tests.{lt-ltb, le-ltb}
use Rattle.texts.specs.Steps.{name_fault}
use Rattle.texts.proofs.steps.name_fault.Goals as goal

pub returns-in-None : goal.returns-in-None
unfolding name_fault
returns-in-None c = rw (← c.row_named.ensures, c.in-None.is)

pub returns-in-Some : goal.returns-in-Some
unfolding name_fault
returns-in-Some c = rw (← c.row_named.ensures, c.in-Some.is, lt-ltb _ _ c.if-named-k.true)

pub returns-in-Some-2 : goal.returns-in-Some-2
unfolding name_fault
returns-in-Some-2 c =
    rw (← c.row_named.ensures, c.in-Some.is, le-ltb _ _ c.if-named-k.false)
