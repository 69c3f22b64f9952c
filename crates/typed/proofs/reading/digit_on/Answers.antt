-- `typed::reading::digit_on` meets its contract: the code asks what the definition asks, and ten times the cap is the bound.
use native.Mathlib.Omega.{arith}
use borrow.Author.Tests.{lt-ltb, le-ltb}
use Rattle.typed.specs.Reading.{digit_on}
use Rattle.typed.proofs.reading.digit_on.Goals as goal

pub returns-then-byte-lt48 : goal.returns-then-byte-lt48
unfolding digit_on
returns-then-byte-lt48 c = (rw (lt-ltb c.args.byte 48 c.if-byte-lt48.true), omega arith)

pub returns : goal.returns
unfolding digit_on
returns c = (rw (le-ltb c.args.byte 48 c.if-byte-lt48.false) (omega arith), omega arith)
