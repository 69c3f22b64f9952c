-- `texts::cutting::is_blank` meets its contract: both ways out are cases of `blank`.
use borrow.Author.Tests.{eq-eqb, ne_eqb}
use Rattle.texts.specs.Cutting.{blank}
use Rattle.texts.proofs.cutting.is_blank.Goals as goal

pub returns-then-byte-eq-SPACE : goal.returns-then-byte-eq-SPACE
unfolding blank
returns-then-byte-eq-SPACE c = rw (eq-eqb _ _ c.if-byte-eq-SPACE.true)

pub returns-else-byte-eq-SPACE : goal.returns-else-byte-eq-SPACE
unfolding blank
returns-else-byte-eq-SPACE c = rw (ne_eqb _ _ c.if-byte-eq-SPACE.false)
