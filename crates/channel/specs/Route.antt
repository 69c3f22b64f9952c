-- The route so far: its sheets, how many are answered, and its class (section 10).
use Rattle.std.specs.Prelude.{ℕ, List, [], ◌∷◌, Result, Ok, Err}
use Rattle.class.specs.Classes.{with_ship, route_class}
use Rattle.record.specs.Counting.{one_more}
use Rattle.channel.specs.declared.route.Route.{Route}
use Rattle.design.specs.declared.Reason.{Reason}
use Rattle.design.specs.declared.Figures.{Figures}

-- the route before its first sheet
abbrev pub no_sheets : Route
no_sheets = record { sheets = 0; answered = 0; class = route_class [] }

-- the route with one more sheet
abbrev pub with_sheet : Route → Result Figures Reason → Route
with_sheet route (Ok f) =
    record { sheets = one_more route.sheets; answered = one_more route.answered; class = with_ship route.class f.classes.ship }
with_sheet route (Err reason) = record { sheets = one_more route.sheets; answered = route.answered; class = route.class }

-- the ship class of an answered sheet, and none of a refused one
abbrev pub ships_of : Result Figures Reason → List ℕ
ships_of (Ok f) = f.classes.ship ∷ []
ships_of (Err reason) = []
