-- `depth::Stretch::sailing_depth` meets its contract: its five parts fit 19 bits together.
use mathlib.Core.Path.{ap}
use native.Mathlib.Omega.{arith}
use Rattle.depth.specs.Worksheet.{reckoned}
use Rattle.depth.proofs.Sizes.{added_up}
use Rattle.depth.proofs.Stretch.sailing_depth.Goals as goal

pub returns : goal.returns
returns c =
    let a = c.allowances_of-added in
    (ap reckoned (added_up c.args.self a.result a.ensures.0 c.args.squat), omega arith)
