-- `engine::first_cut` meets its contract: the search from where the loop stands answers for all of it.
use mathlib.Core.Path.{refl, sym, ◌∙◌}
use native.Mathlib.Omega.{arith}
use Rattle.engine.specs.Plain.{meets, first_cut}
use Rattle.engine.proofs.Searches.{depth_here, depth_end, depth_on}
use Rattle.engine.proofs.first_cut.Goals as goal

pub loop-d-init : goal.loop-d-init
unfolding first_cut
loop-d-init c = refl

pub returns-then-meets_it : goal.returns-then-meets_it
returns-then-meets_it c =
    depth_here (meets _) c.loop-d.d 3001 (omega arith) (sym c.meets_it.ensures ∙ c.if-meets_it.true) ∙ c.loop-d.invariant

pub loop-d-preserved : goal.loop-d-preserved
loop-d-preserved c =
    sym (depth_on (meets _) c.loop-d.d 3001 (omega arith) (sym c.meets_it.ensures ∙ c.if-meets_it.false)) ∙ c.loop-d.invariant

pub returns : goal.returns
returns c = depth_end (meets _) c.loop-d.d 3001 (omega arith) ∙ c.loop-d.invariant
