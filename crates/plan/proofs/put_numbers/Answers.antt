-- `plan::put_numbers` meets its contract: after i numbers stand their bytes, then what stood there before.
use mathlib.Core.Path.{◌≡◌, ◌∙◌}
use native.Mathlib.Omega.{arith}
use lib.IntN.{pos}
use lib.ListN.{get_or}
use borrow.Author.Rules.{rules}
use mir.Syntax.{w32}
use mir.Val.{to_z, of_z}
use mir.Facts.{to_z-of_z}
use Rattle.plan.proofs.Placing.{one_more}
use Rattle.plan.proofs.put_numbers.Goals as goal

pub loop-i-preserved : goal.loop-i-preserved
loop-i-preserved c =
    let l = c.loop-i in
    let z = get_or c.args.numbers l.i (pos 0) in
    let read : to_z w32 (of_z w32 z) ≡ z = to_z-of_z {w = w32} (search rules) in
    let step = one_more c.args.numbers c.args.place.now l.place l.i (omega arith) (omega arith) l.invariant.0 l.invariant.1 in
    (omega arith, c.put_number.ensures ∙ rw read step, l.invariant.2)
