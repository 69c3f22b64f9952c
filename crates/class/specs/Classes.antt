-- Classes, 0 special to 4 (section 7).
use mathlib.Core.List.{List, foldl}
use Rattle.std.specs.Prelude.{◌↔◌, ◌≡◌, ℕ, ◌≤◌, ◌<◌, Option, Some, None, IfSome}
use Rattle.laws.specs.Choice.{ifᵇ◌then◌else◌, ◌≤ᵇ◌, ◌<ᵇ◌}
use Rattle.datum.specs.declared.BelowLevel.{BelowLevel}
use Rattle.lanes.specs.declared.Lanes.{Lanes}
use Rattle.lanes.specs.declared.Lanes.TheVariants.{One, Two}
use Rattle.class.specs.declared.Classes.{Classes}
use Rattle.class.specs.declared.Limits.{Limits}

-- from four figures, 0, 1, 2 and 3; under the last, 4
unfoldable pub class_by : ℕ → ℕ → ℕ → ℕ → ℕ → ℕ
class_by special first second third figure =
    ifᵇ special ≤ᵇ figure then 0 else
    (ifᵇ first ≤ᵇ figure then 1 else (ifᵇ second ≤ᵇ figure then 2 else (ifᵇ third ≤ᵇ figure then 3 else 4)))

-- ship from 40,000, 20,000, 10,000, 5,000 t
abbrev pub ship_class : ℕ → ℕ
ship_class deadweight = class_by 40000 20000 10000 5000 deadweight

-- width without widening from 110, 90, 70, 50 m, or 240, 200, 160, 120 for two lanes
abbrev pub width_class : Lanes → ℕ → ℕ
width_class One width = class_by 11000 9000 7000 5000 width
width_class Two width = class_by 24000 20000 16000 12000 width

-- depth by s from 14, 11, 9, 8 m
abbrev pub depth_class : BelowLevel → ℕ
depth_class s = class_by 1400 1100 900 800 s.0

-- the three classes of a stretch
abbrev pub classes_of : ℕ → ℕ → Lanes → BelowLevel → Classes
classes_of deadweight width lanes s = record { ship = ship_class deadweight; width = width_class lanes width; depth = depth_class s }

-- what it means, without a method: the figure reaches the class and not the one before it
pub data InClass (special first second third figure : ℕ) : ℕ → Type 0 where
  is_special : special ≤ figure → InClass special first second third figure 0
  is_first : first ≤ figure → figure < special → InClass special first second third figure 1
  is_second : second ≤ figure → figure < first → InClass special first second third figure 2
  is_third : third ≤ figure → figure < second → InClass special first second third figure 3
  is_last : figure < third → InClass special first second third figure 4

-- the limit of a figure's class, and that of the next better class, or none
abbrev pub limits : Option ℕ → Option ℕ → Limits
limits passed next = record { passed = passed; next = next }

-- class 0 has no better one, and class 4 no limit
unfoldable pub limits_by : ℕ → ℕ → ℕ → ℕ → ℕ → Limits
limits_by special first second third figure =
    ifᵇ special ≤ᵇ figure then limits (Some special) None else
    (ifᵇ first ≤ᵇ figure then limits (Some first) (Some special) else
    (ifᵇ second ≤ᵇ figure then limits (Some second) (Some first) else
    (ifᵇ third ≤ᵇ figure then limits (Some third) (Some second) else limits None (Some third))))

-- those of the ship, the width and the depth, from the figures of their classes
abbrev pub ship_limits : ℕ → Limits
ship_limits deadweight = limits_by 40000 20000 10000 5000 deadweight

abbrev pub width_limits : Lanes → ℕ → Limits
width_limits One width = limits_by 11000 9000 7000 5000 width
width_limits Two width = limits_by 24000 20000 16000 12000 width

abbrev pub depth_limits : BelowLevel → Limits
depth_limits s = limits_by 1400 1100 900 800 s.0

-- what they mean: the figure has passed the one and is under the next, and just the figures from the one to under the next have its class
pub record Around (class_of : ℕ → ℕ) (figure : ℕ) (class : ℕ) (limits : Limits) : Type 0 where
  pub reached : IfSome limits.passed (λ limit. limit ≤ figure)
  pub under_next : IfSome limits.next (λ limit. figure < limit)
  pub none_better : (limits.next ≡ None) ↔ (class ≡ 0)
  pub none_passed : (limits.passed ≡ None) ↔ (class ≡ 4)
  pub whole_class : (other : ℕ) → (class_of other ≡ class) ↔ (IfSome limits.passed (λ limit. limit ≤ other) × IfSome limits.next (λ limit. other < limit))

-- the smaller of a route's class and a ship's
unfoldable pub with_ship : ℕ → ℕ → ℕ
with_ship route ship = ifᵇ ship <ᵇ route then ship else route

-- the route takes the smallest ship class of its answered stretches, 5 if none is answered
abbrev pub route_class : List ℕ → ℕ
route_class ships = foldl with_ship 5 ships
