-- What turns a sheet away here (section 8): each row's number, and what it means.
use Rattle.std.specs.Prelude.{◌≡◌, List, [], ◌∷◌, ◌≢◌, ℕ, ◌*◌, ◌<◌, ◌≤◌, Some, Result, Ok, Err}
use Rattle.std.proofs.Common.{lit≤}
use Rattle.laws.specs.Rows.{Row, ◌when◌}
use Rattle.speed.specs.declared.Section.{Section}
use Rattle.speed.specs.declared.SpeedFault.{SpeedFault}
use Rattle.speed.specs.declared.SpeedFault.TheVariants.{PointMissing, TooFast as TooFastFault}
use Rattle.speed.specs.Critical.{critical_speed, whole}
use Rattle.speed.specs.Weights.{Lacking}

-- the number of each fault
abbrev pub speed_fault_number : SpeedFault → ℕ
speed_fault_number PointMissing = 16
speed_fault_number TooFastFault = 17

-- none is 0, which is no refusal's
pub speed_fault_some : (fault : SpeedFault) → 1 ≤ speed_fault_number fault
speed_fault_some PointMissing = lit≤ tt
speed_fault_some TooFastFault = lit≤ tt

-- the number of a check, 0 for none
abbrev pub check_number : Result (Unit {0}) SpeedFault → ℕ
check_number (Ok tt) = 0
check_number (Err fault) = speed_fault_number fault

-- 16: a needed point is blank or outside the table; only where a slope asks for the check
pub record PointLacking (q : Section) : Type 0 where
  pub asked : q.slope ≢ 0
  pub lacking : Lacking q

-- 17: knots × 1,852 / 3,600 metres a second is more than nine tenths of the critical speed, which is so many parts of the whole in tenths of
-- a metre a second; only where a slope asks for the check
pub record TooFast (q : Section) (knots : ℕ) : Type 0 where
  pub asked : q.slope ≢ 0
  pub parts : ℕ
  pub speed : critical_speed q ≡ Some parts
  pub more : 9 * parts * 3600 < 100 * (knots * 1852) * whole q.cut.0

-- the rows that a check has, in their order
abbrev pub speed_rows : Section → ℕ → List Row
speed_rows q knots = (16 when PointLacking q) ∷ (17 when TooFast q knots) ∷ []
