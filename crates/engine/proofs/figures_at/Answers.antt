-- `engine::figures_at` meets its contract: a cut that meets the definition is as deep as its sailing depth, so both fit.
use mathlib.Core.Path.{◌≡◌, ap₂, ◌∙◌}
use native.Mathlib.Omega.{arith}
use Rattle.depth.specs.Depth.{sailing, own_column}
use Rattle.engine.specs.Plain.{figures_at}
use Rattle.engine.proofs.Serving.{meets_exactly}
use Rattle.engine.proofs.figures_at.Goals as goal

-- the s of the cut's own column
own_sailing : (c : goal.After-sailing-s) → c.sailing-s.result ≡ sailing c.args.stretch (own_column c.args.stretch c.args.d)
own_sailing c = c.sailing-s.ensures.0 ∙ ap₂ sailing c.of_cut.ensures.0 c.of_cut.ensures.1

pub overflow_cast-result-2 : goal.overflow_cast-result-2
overflow_cast-result-2 c =
    let a = c.args in
    omega (arith, own_sailing c, ((meets_exactly a.stretch a.d).0 c.requires.1).deep)

pub returns : goal.returns
unfolding figures_at
returns c = rw (own_sailing c)
