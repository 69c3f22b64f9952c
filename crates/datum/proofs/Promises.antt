-- What the datums promise (sections 4.1 and 4.8).
use mathlib.Core.Path.{◌≡◌}
use Prim.Native.Nat.{ℕ, ◌+◌, ◌-◌, ◌^◌, ◌≤◌, ◌<◌}
use lib.IntN.{ℤ, pos}
use mir.Syntax.{w32}
use mir.Val.{SFits}
use Rattle.laws.proofs.Unique.{one_answer}
use Rattle.datum.specs.Datum.{level_of, below, below_chart, natural_depth, datum_depth}
use Rattle.datum.specs.declared.Level.{Level}
use Rattle.datum.specs.declared.BelowLevel.{BelowLevel}
use Rattle.datum.specs.declared.BelowChart.{BelowChart}
use Rattle.datum.proofs.Natural.{natural_of_bed}
use Rattle.std.proofs.Common.{rules}

-- Natural depth N = bed + level, or 0 if negative: of every bed and level that a sheet can have, with nothing lost.
pub natural_depth_lem : (bed held : ℕ) → bed ≤ 3000 → held ≤ 2000
    → natural_depth (below_chart (pos bed)) (record { 0 = held }) ≡ below (bed + held - 500)
natural_depth_lem = natural_of_bed

-- A level in cm and a datum depth are numbers of 32 bits, for a cut and a level of the 16 bits that they are held in.
pub level_fits : (level : Level) → level.0 < 2 ^ 16 → SFits w32 (level_of level)
level_fits level h = search rules

pub datum_fits : (cut : BelowLevel) (level : Level) → cut.0 < 2 ^ 16 → level.0 < 2 ^ 16 → SFits w32 (datum_depth cut level).0
unfolding datum_depth
datum_fits cut level c h = search rules

-- One level in cm, one natural depth and one datum depth.
pub level_unique : (level : Level) (r s : ℤ) → r ≡ level_of level → s ≡ level_of level → r ≡ s
level_unique level = one_answer

pub natural_unique : (bed : BelowChart) (level : Level) (r s : BelowLevel) → r ≡ natural_depth bed level → s ≡ natural_depth bed level → r ≡ s
natural_unique bed level = one_answer

pub datum_unique : (cut : BelowLevel) (level : Level) (r s : BelowChart) → r ≡ datum_depth cut level → s ≡ datum_depth cut level → r ≡ s
datum_unique cut level = one_answer
