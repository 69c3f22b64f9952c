-- `engine::InColumn::first_figure` meets its contract: the search from where the loop stands answers for all of it.
use mathlib.Core.Path.{◌≡◌, sym, ◌∙◌}
use Prim.Native.Nat.{◌+◌, ◌-◌}
use native.Mathlib.Omega.{arith}
use Rattle.engine.specs.Plain.{deep, first_figure}
use Rattle.engine.proofs.Searches.{depth_here, depth_end, depth_on}
use Rattle.engine.proofs.InColumn.first_figure.Goals as goal

pub loop-figure-init : goal.loop-figure-init
unfolding first_figure
loop-figure-init c = rw (let e : c.sailing-s.result + 121 - c.sailing-s.result ≡ 121 = omega arith in e, c.sailing-s.ensures.0)

pub returns-then-is_deep : goal.returns-then-is_deep
returns-then-is_deep c =
    depth_here (deep _ _) c.loop-figure.figure (c.sailing-s.result + 121) (omega arith) (sym c.is_deep.ensures ∙ c.if-is_deep.true)
    ∙ c.loop-figure.invariant

pub returns-else-is_deep : goal.returns-else-is_deep
returns-else-is_deep c =
    depth_end (deep _ _) (c.loop-figure.figure + 1) (c.sailing-s.result + 121) (omega arith)
    ∙ sym (depth_on (deep _ _) c.loop-figure.figure (c.sailing-s.result + 121) (omega arith) (sym c.is_deep.ensures ∙ c.if-is_deep.false))
    ∙ c.loop-figure.invariant

pub loop-figure-preserved : goal.loop-figure-preserved
loop-figure-preserved c =
    sym (depth_on (deep _ _) c.loop-figure.figure (c.sailing-s.result + 121) (omega arith) (sym c.is_deep.ensures ∙ c.if-is_deep.false))
    ∙ c.loop-figure.invariant
