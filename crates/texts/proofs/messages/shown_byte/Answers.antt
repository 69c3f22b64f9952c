-- `texts::messages::shown_byte` meets its contract: each way out is a case of `shown`.
use borrow.Author.Tests.{lt-ltb, le-ltb, eq-eqb, ne_eqb}
use Rattle.texts.specs.Messages.{shown}
use Rattle.texts.proofs.messages.shown_byte.Goals as goal

pub returns-then-byte-lt-SPACE : goal.returns-then-byte-lt-SPACE
unfolding shown
returns-then-byte-lt-SPACE c = rw (lt-ltb _ _ c.if-byte-lt-SPACE.true)

pub returns-then-byte-eq-DELETE : goal.returns-then-byte-eq-DELETE
unfolding shown
returns-then-byte-eq-DELETE c = rw (le-ltb _ _ c.if-byte-lt-SPACE.false, eq-eqb _ _ c.if-byte-eq-DELETE.true)

pub returns : goal.returns
unfolding shown
returns c = rw (le-ltb _ _ c.if-byte-lt-SPACE.false, ne_eqb _ _ c.if-byte-eq-DELETE.false)
