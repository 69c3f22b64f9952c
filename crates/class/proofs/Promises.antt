-- What the classes promise (section 7), each cited from its proof.
use mathlib.Core.Path.{◌≡◌, refl}
use mathlib.Core.List.{List, [], ◌∷◌, ◌++◌, Memᴰ}
use mathlib.Core.Logic.{◌↔◌}
use Prim.Native.Nat.{ℕ, ◌≤◌}
use native.Mathlib.Omega.{arith}
use Rattle.laws.specs.Extremes.{Least}
use Rattle.laws.proofs.Unique.{one_answer}
use Rattle.datum.specs.Datum.{below}
use Rattle.datum.specs.declared.BelowLevel.{BelowLevel}
use Rattle.lanes.specs.declared.Lanes.{Lanes}
use Rattle.lanes.specs.declared.Lanes.TheVariants.{One, Two}
use Rattle.class.specs.Classes.{ship_class, width_class, depth_class, classes_of, ship_limits, width_limits, depth_limits, Around, InClass, with_ship, route_class}
use Rattle.class.specs.declared.Classes.{Classes}
use Rattle.class.specs.declared.Limits.{Limits}
use Rattle.class.proofs.Bounds.{class_exactly, class_within, limits_around}
use Rattle.class.proofs.Routes.{smallest, one_more}
use Rattle.class.proofs.Starred.{starred as the_starred}

-- Ship from 40,000, 20,000, 10,000, 5,000 t, and nothing else.
pub ship_classes : (deadweight k : ℕ) → (ship_class deadweight ≡ k) ↔ InClass 40000 20000 10000 5000 deadweight k
ship_classes deadweight = class_exactly 40000 20000 10000 5000 deadweight (omega arith)

-- Width without widening from 110, 90, 70, 50 m, or 240, 200, 160, 120 for two lanes.
pub width_classes_one : (width k : ℕ) → (width_class One width ≡ k) ↔ InClass 11000 9000 7000 5000 width k
width_classes_one width = class_exactly 11000 9000 7000 5000 width (omega arith)

pub width_classes_two : (width k : ℕ) → (width_class Two width ≡ k) ↔ InClass 24000 20000 16000 12000 width k
width_classes_two width = class_exactly 24000 20000 16000 12000 width (omega arith)

-- Depth by s from 14, 11, 9, 8 m.
pub depth_classes : (s : BelowLevel) (k : ℕ) → (depth_class s ≡ k) ↔ InClass 1400 1100 900 800 s.0 k
depth_classes s = class_exactly 1400 1100 900 800 s.0 (omega arith)

-- The route's class is 5 if no stretch is answered, and goes on by one stretch at a time.
pub route_begins : route_class [] ≡ 5
route_begins = refl

pub route_goes_on : (ships : List ℕ) (ship : ℕ) → route_class (ships ++ (ship ∷ [])) ≡ with_ship (route_class ships) ship
route_goes_on = one_more

-- Otherwise it is the smallest ship class of its answered stretches, of which none is over 4.
pub route_takes_smallest : (ships : List ℕ) → ((k : ℕ) → Memᴰ k ships → k ≤ 4) → (some : ℕ) → Memᴰ some ships
    → Least (λ (k : ℕ). Memᴰ k ships) (route_class ships)
route_takes_smallest = smallest

-- No class of a stretch is over 4.
pub ship_class_within : (deadweight : ℕ) → ship_class deadweight ≤ 4
ship_class_within = class_within 40000 20000 10000 5000

pub width_class_within : (lanes : Lanes) (width : ℕ) → width_class lanes width ≤ 4
width_class_within One = class_within 11000 9000 7000 5000
width_class_within Two = class_within 24000 20000 16000 12000

pub depth_class_within : (s : BelowLevel) → depth_class s ≤ 4
depth_class_within s = class_within 1400 1100 900 800 s.0

-- The limits that are shown stand around the figure: it has passed the one and is under the next, class 0 has no next and class 4 passed none,
-- and just the figures between them have its class.
pub ship_limits_around : (deadweight : ℕ) → Around ship_class deadweight (ship_class deadweight) (ship_limits deadweight)
ship_limits_around = limits_around 40000 20000 10000 5000 (omega arith)

pub width_limits_around : (lanes : Lanes) (width : ℕ) → Around (width_class lanes) width (width_class lanes width) (width_limits lanes width)
width_limits_around One = limits_around 11000 9000 7000 5000 (omega arith)
width_limits_around Two = limits_around 24000 20000 16000 12000 (omega arith)

pub depth_limits_around : (s : BelowLevel) → Around (λ cm. depth_class (below cm)) s.0 (depth_class s) (depth_limits s)
depth_limits_around s = limits_around 1400 1100 900 800 (omega arith) s.0

-- One answer of each call.
pub ship_unique : (deadweight r t : ℕ) → r ≡ ship_class deadweight → t ≡ ship_class deadweight → r ≡ t
ship_unique deadweight = one_answer

pub width_unique : (lanes : Lanes) (width r t : ℕ) → r ≡ width_class lanes width → t ≡ width_class lanes width → r ≡ t
width_unique lanes width = one_answer

pub depth_unique : (s : BelowLevel) (r t : ℕ) → r ≡ depth_class s → t ≡ depth_class s → r ≡ t
depth_unique s = one_answer

pub classes_unique : (deadweight width : ℕ) (lanes : Lanes) (s : BelowLevel) (r t : Classes)
    → r ≡ classes_of deadweight width lanes s → t ≡ classes_of deadweight width lanes s → r ≡ t
classes_unique deadweight width lanes s = one_answer

pub ship_limits_unique : (deadweight : ℕ) (r t : Limits) → r ≡ ship_limits deadweight → t ≡ ship_limits deadweight → r ≡ t
ship_limits_unique deadweight = one_answer

pub width_limits_unique : (lanes : Lanes) (width : ℕ) (r t : Limits) → r ≡ width_limits lanes width → t ≡ width_limits lanes width → r ≡ t
width_limits_unique lanes width = one_answer

pub depth_limits_unique : (s : BelowLevel) (r t : Limits) → r ≡ depth_limits s → t ≡ depth_limits s → r ≡ t
depth_limits_unique s = one_answer

pub none_answered_unique : (r t : ℕ) → r ≡ route_class [] → t ≡ route_class [] → r ≡ t
none_answered_unique = one_answer

pub route_unique : (route ship r t : ℕ) → r ≡ with_ship route ship → t ≡ with_ship route ship → r ≡ t
route_unique route ship = one_answer

-- Case S: ship 0, width 0, depth 1, route 0.
pub starred : ◌≡◌ {A = List ℕ}
    (ship_class 40000 ∷ width_class One 14400 ∷ depth_class (below 1170) ∷ route_class (0 ∷ []) ∷ [])
    (0 ∷ 0 ∷ 1 ∷ 0 ∷ [])
starred = the_starred
