-- One lane or two (section 3).
use Rattle.std.specs.Prelude.{ℕ, ◌*◌}
use Rattle.laws.specs.Choice.{ifᵇ◌then◌else◌, ◌<ᵇ◌, ◌=ᵇ◌}
use Rattle.lanes.specs.declared.Lanes.{Lanes}
use Rattle.lanes.specs.declared.Lanes.TheVariants.{One, Two}
use Rattle.lanes.specs.declared.Sides.{Sides}

-- how many lanes
abbrev pub lane_count : Lanes → ℕ
lane_count One = 1
lane_count Two = 2

-- by the traffic: one lane exactly when channel length × ships < 4,444,800 × knots
unfoldable pub by_traffic : ℕ → ℕ → ℕ → Lanes
by_traffic channel ships knots = ifᵇ channel * ships <ᵇ 4444800 * knots then One else Two

-- 1 and 2 name the lanes; else the traffic gives them
unfoldable pub lanes_of : ℕ → ℕ → ℕ → ℕ → Lanes
lanes_of named channel ships knots =
    ifᵇ named =ᵇ 1 then One else (ifᵇ named =ᵇ 2 then Two else by_traffic channel ships knots)

-- both sides of the rule by the traffic: channel length × ships, and 4,444,800 × knots
unfoldable pub sides_of : ℕ → ℕ → ℕ → Sides
sides_of channel ships knots = record { traffic = channel * ships; limit = 4444800 * knots }
