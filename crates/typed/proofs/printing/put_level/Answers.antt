-- `typed::printing::put_level` meets its contract: a way out off the record, below 0 and from 0 on.
use native.Mathlib.Omega.{arith}
use lib.ListN.{length-set}
use Rattle.lines.proofs.putting.Placing.{put_on, byte_then}
use Rattle.typed.proofs.printing.Figures.{level_record, level_below, level_above}
use Rattle.typed.proofs.printing.put_level.Goals as goal

pub returns-then-figure-eq0 : goal.returns-then-figure-eq0
returns-then-figure-eq0 c =
    let p = c.put.ensures.put (omega arith) in
    (rw (level_record _ c.if-figure-eq0.true) p, omega arith)

pub shape_of-buffer-then-figure-lt-LEVEL_ZERO : goal.shape_of-buffer-then-figure-lt-LEVEL_ZERO
shape_of-buffer-then-figure-lt-LEVEL_ZERO c =
    let g = c.put-sign in
    omega (arith, length-set g.new.buffer g.result 45)

pub returns-then-figure-lt-LEVEL_ZERO : goal.returns-then-figure-lt-LEVEL_ZERO
returns-then-figure-lt-LEVEL_ZERO c =
    let q = c.put-sign.ensures.put (omega arith) in
    let long = length-set c.put-sign.new.buffer c.put-sign.result 45 in
    let p = c.put_count.ensures.put (omega (arith, long)) in
    let last = c.put_count.ensures.bound (omega (arith, long)) in
    let text = level_below _ c.if-figure-eq0.false c.if-figure-lt-LEVEL_ZERO.true in
    (rw text (put_on q (byte_then p (omega arith)) (omega arith)), omega (arith, last))

pub returns : goal.returns
returns c =
    let q = c.put-sign.ensures.put (omega arith) in
    let p = c.put_count-2.ensures.put (omega arith) in
    (rw (level_above _ c.if-figure-lt-LEVEL_ZERO.false) (put_on q p (omega arith)), omega arith)
