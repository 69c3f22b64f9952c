-- The classes of case S (section 11), in one lane and in two, and the route's, computed.
use mathlib.Core.Path.{◌≡◌, refl}
use mathlib.Core.List.{List, [], ◌∷◌}
use Prim.Native.Nat.{ℕ}
use Rattle.datum.specs.Datum.{below}
use Rattle.lanes.specs.declared.Lanes.TheVariants.{One}
use Rattle.class.specs.Classes.{class_by, ship_class, width_class, depth_class, with_ship, route_class}

pub starred : ◌≡◌ {A = List ℕ}
    (ship_class 40000 ∷ width_class One 14400 ∷ depth_class (below 1170) ∷ route_class (0 ∷ []) ∷ [])
    (0 ∷ 0 ∷ 1 ∷ 0 ∷ [])
unfolding class_by with_ship
starred = refl
