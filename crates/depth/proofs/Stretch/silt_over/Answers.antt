-- `depth::Stretch::silt_over` meets its contract: a way out for nothing dug, for a cut that silts up whole, and for one that holds its silt, whose product fits 36 bits.
use mathlib.Core.Path.{◌≡◌, ◌∙◌}
use Prim.Native.Nat.{◌-◌, ◌*◌}
use native.Mathlib.Omega.{arith}
use Rattle.laws.specs.Rounding.{up}
use Rattle.depth.specs.Depth.{filling}
use Rattle.laws.proofs.Rounding.{ceiling_is}
use Rattle.depth.proofs.Sizes.{silt_size}
use Rattle.depth.proofs.cuts.Settling.{settles}
use Rattle.depth.proofs.Stretch.silt_over.Goals as goal

pub returns : goal.returns
returns c =
    let q = c.args.self in
    let dug = c.dug_to-dug in
    let settled = settles q c.args.sailing.0 (omega arith) (omega arith) in
    let reached : c.div_ceil.result ≡ up (filling q * dug.result) (100000 - filling q) = c.div_ceil.ensures ∙ ceiling_is _ _ (omega arith) in
    (reached ∙ rw dug.ensures settled, rw reached (omega (arith, silt_size {filling = filling q} {dug = dug.result} (omega arith) (omega arith))))
