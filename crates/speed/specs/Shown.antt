-- What a critical speed is joined from, as a sheet shows it (section 13): whole numbers, rounded down.
use Rattle.std.specs.Prelude.{ℕ, ◌*◌, ◌/◌, Option, Some, None}
use Rattle.laws.specs.Choice.{ifᵇ◌then◌else◌, ◌=ᵇ◌}
use Rattle.datum.specs.Datum.{dug}
use Rattle.speed.specs.declared.Section.{Section}
use Rattle.speed.specs.declared.SpeedParts.{SpeedParts}
use Rattle.speed.specs.Lines.{times}
use Rattle.speed.specs.Critical.{shallow_speed, full_speed, critical_speed, whole}

-- a speed over a divisor, rounded down
abbrev pub quotient : ℕ → Option ℕ → Option ℕ
quotient divisor (Some parts) = Some (parts / divisor)
quotient divisor None = None

-- there is none over 0
unfoldable pub over : ℕ → Option ℕ → Option ℕ
over divisor speed = ifᵇ divisor =ᵇ 0 then None else quotient divisor speed

-- nine tenths of so many parts of the whole, in tenths of a metre a second: in hundredths of a knot, which is 1,852 m in 3,600 s
unfoldable pub fastest_speed : ℕ → Option ℕ → Option ℕ
fastest_speed cut speed = over (1852 * whole cut) (times (9 * 3600) speed)

-- h in cm; V' is in hundredths of a tenth of a metre a second, which are mm a second, V'' in parts of 5,000 × 4 of those, and the joined
-- speed in parts of 5,000 × 4 × cut
unfoldable pub parts_shown : Section → SpeedParts
parts_shown q = record {
  dug = dug q.natural.0 q.cut.0;
  shallow = shallow_speed q.cut.0;
  full = over 20000 (full_speed q.width q.slope q.cut.0);
  critical = over (20000 * q.cut.0) (critical_speed q);
  fastest = fastest_speed q.cut.0 (critical_speed q);
}
