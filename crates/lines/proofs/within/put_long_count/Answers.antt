-- `lines::within::put_long_count` meets its contract. The loop's invariant: the digits from place on stand, and what is left of the count is still to be put.
use Rattle.std.proofs.Common.{refl}
use native.Mathlib.Omega.{arith}
use lib.ListN.{length-set}
use Rattle.lines.proofs.decimals.Digits.{places_at_most, one_place, more_places}
use Rattle.lines.proofs.putting.Counting.{none_stands, one_more_stands, all_stands}
use Rattle.lines.proofs.within.put_long_count.Goals as goal

pub overflow_add-end : goal.overflow_add-end
overflow_add-end c = omega (arith, places_at_most 19 c.args.count (omega arith))

pub loop-place-init : goal.loop-place-init
loop-place-init c =
    let a = c.args in
    let small = places_at_most 19 a.count (omega arith) in
    (refl, omega arith, none_stands a.buffer.now a.at a.count _ (omega arith))

pub loop-place-preserved : goal.loop-place-preserved
loop-place-preserved c =
    let l = c.loop-place in
    let s = l.invariant.2 in
    let more = more_places l.rest (omega (arith, s.left)) in
    (simp length-set l.invariant.0, l.invariant.1, rw c.digit.ensures (one_more_stands s more (omega arith)))

pub digit-requires-2 : goal.digit-requires-2
digit-requires-2 c = let l = c.loop-place in one_place l.rest (omega (arith, l.invariant.2.left))

pub returns : goal.returns
returns c =
    let l = c.loop-place in
    let s = l.invariant.2 in
    (rw c.digit-2.ensures (all_stands s (one_place l.rest (omega (arith, s.left))) (omega arith)), l.invariant.1)
