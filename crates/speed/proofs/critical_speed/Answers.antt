-- `speed::critical_speed` meets its contract: the two speeds by what is not dug of the cut and what is.
use native.Mathlib.Omega.{arith}
use Prim.Native.Nat.{◌≤◌}
use borrow.Author.Rules.{rules}
use Rattle.speed.specs.Lines.{parts_of}
use Rattle.speed.proofs.lines.Sizes.{times_within, weighed_within}
use Rattle.speed.proofs.critical_speed.Goals as goal

pub returns-clause-small : goal.returns-clause-small
returns-clause-small c =
    let dug = c.dug-dug.ensures in
    let shallow : parts_of c.times_of-shallow.result ≤ 510000000 =
    times_within 20000 25500 510000000 c.shallow_speed.result _ c.times_of-shallow.ensures c.shallow_speed.ensures.small (omega arith) in
    let most : parts_of c.weighed_of.result ≤ 33422850000000 =
    weighed_within _ _ 510000000 33422850000000 _ _ _ c.weighed_of.ensures shallow c.full_speed-full.ensures.small (search rules) in
    omega arith
