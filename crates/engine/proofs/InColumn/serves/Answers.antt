-- `engine::InColumn::serves` meets its contract: a way out for each test.
use mathlib.Core.Path.{◌∙◌}
use native.Mathlib.Omega.{arith}
use Rattle.engine.proofs.Tests.{by_depth_lem}
use Rattle.engine.proofs.InColumn.serves.Goals as goal

pub returns : goal.returns
returns c =
    let a = c.args in
    c.is_deep.ensures ∙ by_depth_lem a.self.stretch a.self.column a.d (omega arith) (omega arith)
