-- `sheet::bits::join` meets its contract: the same steps as `split`, with the two kinds of groups exchanged.
use mathlib.Core.Path.{◌≡◌}
use mathlib.Core.List.{List}
use Prim.Native.Nat.{ℕ, ◌<◌, ◌+◌}
use lib.ListN.{length, drop}
use Rattle.sheet.specs.Fields.{width, nth}
use Rattle.sheet.specs.Packing.{eight}
use Rattle.sheet.specs.Regrouping.{Mid}
use Rattle.sheet.proofs.bits.join.Given as goal

-- the bytes past the sheet stay
pub record Rest (place₀ place : List ℕ) : Type 0 where
  pub same : length place ≡ length place₀
  pub tail : drop 28 place ≡ drop 28 place₀

abbrev pub invariant-loop-held : goal.invariant-loop-held
invariant-loop-held l = Mid width (nth l.figures) eight (nth l.place) (l.i + 1) l.at l.held.bits l.held.n × (l.held.n < 28) × Rest l.initial.place l.place

abbrev pub decreases-loop-held : goal.decreases-loop-held
decreases-loop-held l = l.held.n

abbrev pub invariant-loop-i : goal.invariant-loop-i
invariant-loop-i l = Mid width (nth l.figures) eight (nth l.place) l.i l.at l.held.bits l.held.n × (l.held.n < 8) × Rest l.initial.place l.place
