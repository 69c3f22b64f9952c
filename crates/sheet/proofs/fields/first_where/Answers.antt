-- `sheet::fields::first_where` meets its contract: the search from where the loop stands answers for the whole run.
use mathlib.Core.Path.{sym, ◌∙◌}
use native.Mathlib.Omega.{arith}
use Rattle.laws.proofs.First.{first_end, first_here, first_on}
use Rattle.sheet.proofs.fields.Runs.{found_named, none_named}
use Rattle.sheet.proofs.fields.first_where.Goals as goal

pub returns-then-test : goal.returns-then-test
returns-then-test g c holds decides =
    found_named _ _
    (first_here holds c.loop-i.i c.args.to (omega arith) (sym (decides _ _ (omega arith) c.test.ensures) ∙ c.if-test.true)
    ∙ c.loop-i.invariant holds decides)

pub loop-i-preserved : goal.loop-i-preserved
loop-i-preserved g c holds decides =
    sym (first_on holds c.loop-i.i c.args.to (omega arith) (sym (decides _ _ (omega arith) c.test.ensures) ∙ c.if-test.false))
    ∙ c.loop-i.invariant holds decides

pub returns : goal.returns
returns g c holds decides = none_named _ (first_end holds c.loop-i.i c.args.to (omega arith) ∙ c.loop-i.invariant holds decides)
