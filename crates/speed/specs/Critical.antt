-- The critical speed (section 13.3), and the check against it (section 13.4).
use Rattle.std.specs.Prelude.{ℕ, ◌-◌, ◌*◌, List, Option, Some, None, Result, Ok, Err}
use Rattle.laws.specs.Choice.{ifᵇ◌then◌else◌, ◌<ᵇ◌, ◌=ᵇ◌}
use Rattle.datum.specs.Datum.{dug}
use Rattle.speed.specs.declared.Section.{Section}
use Rattle.speed.specs.declared.SpeedFault.TheVariants.{PointMissing, TooFast as TooFastFault}
use Rattle.speed.specs.Lines.{times, weighed, straight}
use Rattle.speed.specs.Table.{shallow_row, full_row, point_of}
use Rattle.speed.specs.declared.SpeedFault.{SpeedFault}

-- a row's speed at a depth in cm, by a straight line between two whole metres: hundredths
abbrev pub row_speed : List ℕ → ℕ → Option ℕ
row_speed row depth = straight 100 depth (point_of row)

-- V': the speed of shallow water, by straight lines over the depth
abbrev pub shallow_speed : ℕ → Option ℕ
shallow_speed depth = row_speed shallow_row depth

-- V'': the speed of a full section, by straight lines over width, slope and depth: parts of 5,000 × 4 × 100
abbrev pub slope_speed : ℕ → ℕ → ℕ → Option ℕ
slope_speed line slope depth = straight 4 slope (λ m. row_speed (full_row line m) depth)

abbrev pub full_speed : ℕ → ℕ → ℕ → Option ℕ
full_speed width slope depth = straight 5000 width (λ line. slope_speed line slope depth)

-- formula (2): (V' × (cut - h) + V'' × h) / cut, where h is dug, in parts of 5,000 × 4 × 100 × cut; V' is in hundredths, so it counts 5,000 × 4 times
unfoldable pub critical_speed : Section → Option ℕ
critical_speed q =
    weighed (q.cut.0 - dug q.natural.0 q.cut.0) (times 20000 (shallow_speed q.cut.0))
    (dug q.natural.0 q.cut.0) (full_speed q.width q.slope q.cut.0)

-- the whole: 5,000 × 4 × 100 × cut
abbrev pub whole : ℕ → ℕ
whole cut = 2000000 * cut

-- knots × 1,852 / 3,600 metres a second against nine tenths of so many parts of the whole, in tenths of a metre a second; equal is allowed.
-- Both sides stand times 100 × 3,600 × the whole.
unfoldable pub against : ℕ → ℕ → ℕ → Result (Unit {0}) SpeedFault
against parts cut knots = ifᵇ 9 * parts * 3600 <ᵇ 100 * (knots * 1852) * whole cut then Err TooFastFault else (Ok tt)

-- 16, then 17
abbrev pub by_speed : ℕ → ℕ → Option ℕ → Result (Unit {0}) SpeedFault
by_speed cut knots (Some parts) = against parts cut knots
by_speed cut knots None = Err PointMissing

-- a slope of 0 asks for no check
unfoldable pub check_of : Section → ℕ → Result (Unit {0}) SpeedFault
check_of q knots = ifᵇ q.slope =ᵇ 0 then (Ok tt) else by_speed q.cut.0 knots (critical_speed q)
