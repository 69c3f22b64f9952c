-- A bank adds no more than 10 tenths of the beam.
use mathlib.Core.Bool.{Bool, true, false}
use Prim.Native.Nat.{ℕ, ◌≤◌}
use native.Mathlib.Omega.{arith}
use lib.Dec.{eqb}
use Rattle.laws.specs.Choice.{ifᵇ◌then◌else◌}
use Rattle.width.specs.Bands.{for◌moderate◌slow◌}
use Rattle.width.specs.Additions.{bank_item}
use Rattle.width.specs.declared.SpeedBand.{SpeedBand}
use Rattle.width.specs.declared.SpeedBand.TheVariants.{Moderate, Slow}

pub bank_within : (band : SpeedBand) (bank : ℕ) → bank_item band bank ≤ 10
unfolding bank_item
bank_within band bank = go (eqb bank 0) band
  where
    go : (b : Bool) (v : SpeedBand) → (ifᵇ b then (for v moderate 5 slow 3) else (for v moderate 10 slow 5)) ≤ 10
    go true Moderate = omega arith
    go true Slow = omega arith
    go false Moderate = omega arith
    go false Slow = omega arith
