-- `blanks::figures::trimmed_length` meets its contract. The loop's invariant: all behind the bytes left are spaces.
use Rattle.std.proofs.Common.{◌+◌, ◌-◌, ◌≡◌}
use native.Mathlib.Omega.{arith}
use Rattle.blanks.proofs.meaning.Trimming.{all_passed, space_passed, stops_at_other}
use Rattle.blanks.proofs.figures.trimmed_length.Goals as goal

pub returns-then-word-last-ne32 : goal.returns-then-word-last-ne32
returns-then-word-last-ne32 c =
    let l = c.loop-last in
    let last : l.last - 1 + 1 ≡ l.last = omega arith in
    rw last (stops_at_other _ l.last (omega arith) l.auto.last l.invariant c.if-word-last-ne32.true)

pub loop-last-preserved : goal.loop-last-preserved
loop-last-preserved c =
    let l = c.loop-last in
    space_passed _ l.last (omega arith) l.auto.last l.invariant c.if-word-last-ne32.false

pub returns : goal.returns
returns c =
    let l = c.loop-last in
    let none : l.last ≡ 0 = omega arith in
    all_passed _ (rw none at l.invariant)
