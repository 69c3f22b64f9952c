-- `lines::put_count` meets its contract: a way out for each length up to four, and one for the others.
use native.Mathlib.Omega.{arith}
use Rattle.lines.proofs.putting.Counting.{two_stand, three_stand, four_stand}
use Rattle.lines.proofs.within.put_count.Goals as goal

pub returns-then-count-lt100 : goal.returns-then-count-lt100
returns-then-count-lt100 c = (rw (c.digit.ensures, c.digit-then-count-lt100.ensures) (two_stand c.if-count-lt10.false c.if-count-lt100.true (omega arith)), omega arith)

pub returns-then-count-lt1000 : goal.returns-then-count-lt1000
returns-then-count-lt1000 c = (rw (c.digit-then-count-lt1000.ensures, c.digit-then-count-lt1000-2.ensures, c.digit-then-count-lt1000-3.ensures) (three_stand c.if-count-lt100.false c.if-count-lt1000.true (omega arith)), omega arith)

pub returns-then-count-lt10000 : goal.returns-then-count-lt10000
returns-then-count-lt10000 c = (rw (c.digit-then-count-lt10000.ensures, c.digit-then-count-lt10000-2.ensures, c.digit-then-count-lt10000-3.ensures, c.digit-then-count-lt10000-4.ensures) (four_stand c.if-count-lt1000.false c.if-count-lt10000.true (omega arith)), omega arith)
