-- `both::verdict_of` meets its contract: three numbers are the same where each is.
use mathlib.Core.Path.{sym, ◌∙◌}
use borrow.Author.Rules.{rules}
use Rattle.both.specs.Both.{verdict_of}
use Rattle.both.proofs.Steps.{compared}
use Rattle.both.proofs.verdict_of.Goals as goal

pub returns-then-eq : goal.returns-then-eq
unfolding verdict_of
returns-then-eq c = rw (sym (compared c.args.worked c.args.plain (search rules) (search rules)) ∙ sym c.eq.ensures ∙ c.if-eq.true)

pub returns-else-eq : goal.returns-else-eq
unfolding verdict_of
returns-else-eq c = rw (sym (compared c.args.worked c.args.plain (search rules) (search rules)) ∙ sym c.eq.ensures ∙ c.if-eq.false)
