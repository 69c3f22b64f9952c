-- A bed and its figure.
use mathlib.Core.Path.{◌≡◌, refl, ap}
use Prim.Native.Nat.{◌≤◌}
use native.Mathlib.Omega.{arith}
use lib.IntN.{ℤ, pos, negsuc}
use Rattle.datum.specs.Datum.{below_chart}
use Rattle.datum.specs.declared.BelowChart.{BelowChart}
use Rattle.sheet.specs.Sheets.{bed_figure_of, bed_figure}

-- a bed that has a figure is the bed of that figure
pub bed_back : (bed : BelowChart) → bed_figure bed ≤ 3000 → below_chart (pos (bed_figure bed)) ≡ bed
unfolding bed_figure
bed_back bed h = ap below_chart (go bed.0 h)
  where
    go : (z : ℤ) → bed_figure_of z ≤ 3000 → pos (bed_figure_of z) ≡ z
    go (pos n) h = refl
    go (negsuc n) h = absurd (omega arith)
