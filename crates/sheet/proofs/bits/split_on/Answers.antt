-- `sheet::bits::split_on` meets its contract: between two steps the number of the bytes read is that of the groups given out, followed by the held bits.
use Prim.Native.Nat.{◌<◌}
use native.Mathlib.Omega.{arith}
use borrow.Author.Rules.{rules}
use Rattle.sheet.specs.Fields.{count}
use Rattle.sheet.proofs.bits.Splitting.{Full, full_is, split_one, word_left}
use Rattle.sheet.proofs.bits.Steps.{first_fits}
use Rattle.sheet.proofs.bits.Widths.{width_le}
use Rattle.sheet.proofs.bits.split_on.Goals.{In-loop-i, After-filled-full}
use Rattle.sheet.proofs.bits.split_on.Goals as goal

-- the group is one
in_table : (c : In-loop-i) → c.loop-i.i < count
in_table c = omega (arith, c.requires.from_le_to.1, c.loop-i-test.true)

-- what is known past the filling
full : (c : After-filled-full) → Full c.args.bytes.now c.loop-i.figures c.filled-full.result c.loop-i.i c.width_of-width.result
full c =
    let l = c.loop-i in
    full_is _ (λ k. search rules) l.figures l.between c.filled-full.result l.i c.width_of-width.result
    (omega (arith, width_le l.i (omega (arith, c.requires.from_le_to.1, c.loop-i-test.true))))
    l.invariant c.filled-full.ensures

pub filled-full-requires-clause-n_bound : goal.filled-full-requires-clause-n_bound
filled-full-requires-clause-n_bound c =
    word_left c.args.bytes.now c.loop-i.figures c.loop-i.between c.loop-i.i c.width_of-width.result c.loop-i.invariant (omega arith)
    c.width_of-width.ensures

pub overflow_cast-figures : goal.overflow_cast-figures
overflow_cast-figures c =
    let f = full (goal.at.overflow_cast-figures c).After-filled-full in
    let held = c.filled-full.result.held in
    record { fits = omega (arith, first_fits held.bits held.n _ c.first.result f.mid.tail.low f.enough f.narrow c.first.ensures) }

pub loop-i-preserved : goal.loop-i-preserved
loop-i-preserved c =
    split_one _ c.loop-i.figures c.filled-full.result c.loop-i.i c.width_of-width.result c.first.result c.rest.result
    (full (goal.at.loop-i-preserved c).After-filled-full) c.width_of-width.ensures (in_table (goal.at.loop-i-preserved c).In-loop-i)
    c.first.ensures c.rest.ensures.0 c.rest.ensures.1

pub first-requires : goal.first-requires
first-requires c = let f = full (goal.at.first-requires c).After-filled-full in (f.enough, omega (arith, f.few, f.narrow))

pub rest-requires : goal.rest-requires
rest-requires c = let f = full (goal.at.rest-requires c).After-filled-full in (f.enough, omega (arith, f.few, f.narrow))
