-- `lines::within::put_signed` meets its contract: a way out for each sign, and one for a single digit.
use Rattle.lines.proofs.putting.Signs.{put_negative, put_plain}
use native.Mathlib.Omega.{arith}
use Rattle.lines.proofs.within.put_signed.Goals as goal

pub returns-then-number-lt0 : goal.returns-then-number-lt0
returns-then-number-lt0 c =
    put_negative c.ranges.number c.unsigned_abs.ensures.value c.if-number-lt0.true c.put_count.ensures.0 (omega arith)

pub returns-then-count-lt10 : goal.returns-then-count-lt10
returns-then-count-lt10 c =
    put_plain c.ranges.number c.unsigned_abs-count.ensures.value c.if-number-lt0.false c.put_digit.ensures.0

pub returns : goal.returns
returns c =
    put_plain c.ranges.number c.unsigned_abs-count.ensures.value c.if-number-lt0.false c.put_count-2.ensures.0
