-- `engine::InColumn::sailing` meets its contract: the allowances are the definition's.
use mathlib.Core.Path.{ap, ◌∙◌}
use native.Mathlib.Omega.{arith}
use Rattle.depth.specs.Depth.{sailing, sailing_with}
use Rattle.depth.proofs.Sizes.{added_up}
use Rattle.engine.proofs.InColumn.sailing.Goals as goal

pub returns : goal.returns
unfolding sailing
returns c =
    let q = c.args.self.stretch in
    let a = c.allowances_of-added in
    (added_up q a.result a.ensures.0 c.squat.result ∙ ap (sailing_with q) c.squat.ensures, omega arith)
