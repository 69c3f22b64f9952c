-- Depth below the design level and depth below chart datum: the level alone leads from one to the other (sections 4.1, 4.4 and 4.8).
use Rattle.std.specs.Prelude.{ℕ, ◌-◌, min, ℤ, pos, negsuc, ◌+ℤ◌, ◌-ℤ◌}
use Rattle.datum.specs.declared.Level.{Level}
use Rattle.datum.specs.declared.BelowLevel.{BelowLevel}
use Rattle.datum.specs.declared.BelowChart.{BelowChart}

-- a level in cm above chart datum, signed; it is held plus 500
abbrev pub level_of : Level → ℤ
level_of l = pos l.0 -ℤ pos 500

-- a depth below the design level, and one below chart datum
abbrev pub below : ℕ → BelowLevel
below cm = record { 0 = cm }

abbrev pub below_chart : ℤ → BelowChart
below_chart cm = record { 0 = cm }

-- a signed number, or 0 if negative
abbrev pub or_zero : ℤ → ℕ
or_zero (pos n) = n
or_zero (negsuc n) = 0

-- the deepest that a depth below the design level is held as
abbrev pub deepest : ℕ
deepest = 65535

-- natural depth N = bed + level, or 0 if negative
unfoldable pub natural_depth : BelowChart → Level → BelowLevel
natural_depth bed level = below (min deepest (or_zero (bed.0 +ℤ level_of level)))

-- h: what is dug of a depth d over the natural depth N, d - N, or 0 if negative
abbrev pub dug : ℕ → ℕ → ℕ
dug natural d = d - natural

-- datum depth = cut - level, signed
unfoldable pub datum_depth : BelowLevel → Level → BelowChart
datum_depth cut level = below_chart (pos cut.0 -ℤ level_of level)
