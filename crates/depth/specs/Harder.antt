-- Demand 3: when one stretch is as hard as another or harder, and what their depths then are to each other.
use Rattle.std.specs.Prelude.{◌≡◌, ℕ, ◌+◌, ◌≤◌, Result, Ok, Err}
use Rattle.depth.specs.declared.Stretch.{Stretch}
use Rattle.depth.specs.Squat.{squat_reading}
use Rattle.depth.specs.declared.DepthFigures.{DepthFigures}
use Rattle.depth.specs.declared.DepthFault.{DepthFault}

-- q' is as hard as q or harder, over the same natural depth
pub record Harder (q q' : Stretch) : Type 0 where
  pub draft : q.draft ≤ q'.draft
  pub length : q.length ≤ q'.length
  pub soil : q.soil ≤ q'.soil
  pub wave : q.allowance ≤ q'.allowance
  pub silting : q.silting ≤ q'.silting
  pub interval : q.interval ≤ q'.interval
  pub speed : q.speed ≤ q'.speed
  pub lanes : squat_reading q.lanes ≤ squat_reading q'.lanes
  pub natural : q'.natural.0 ≡ q.natural.0

-- where both are answered, the second cut is deeper by k cm or more
abbrev pub Deeper : ℕ → Result DepthFigures DepthFault → Result DepthFigures DepthFault → Type 0
Deeper k (Ok f) (Ok f') = f.cut.0 + k ≤ f'.cut.0
Deeper k (Ok f) (Err fault) = Unit {0}
Deeper k (Err fault) (Ok f') = Unit {0}
Deeper k (Err fault) (Err fault') = Unit {0}

-- the second is answered only where the first is
abbrev pub NeverCured : Result DepthFigures DepthFault → Result DepthFigures DepthFault → Type 0
NeverCured (Ok f) r = Unit {0}
NeverCured (Err fault) (Ok f') = ⊥
NeverCured (Err fault) (Err fault') = Unit {0}
