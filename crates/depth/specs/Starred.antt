-- The starred cases of section 11 that are depths.
use Rattle.std.specs.Prelude.{List, [], ◌∷◌, ℕ, Result, Ok, Err}
use Rattle.datum.specs.Datum.{below}
use Rattle.lanes.specs.declared.Lanes.{Lanes}
use Rattle.lanes.specs.declared.Lanes.TheVariants.{One, Two}
use Rattle.depth.specs.declared.Stretch.{Stretch}
use Rattle.depth.specs.declared.DepthFault.TheVariants.{NoSquatEntry}
use Rattle.depth.specs.declared.DepthFigures.{DepthFigures}
use Rattle.depth.specs.declared.DepthFault.{DepthFault}

-- S over a bed, with its other fields as the case has them
abbrev pub S : ℕ → ℕ → ℕ → ℕ → Lanes → Stretch
S bed speed allowance silting lanes = record {
  draft = 1000;
  length = 20000;
  soil = 0;
  allowance = allowance;
  silting = silting;
  interval = 100;
  natural = below bed;
  speed = speed;
  lanes = lanes;
}

-- a cut, its sailing depth and the columns tried
abbrev pub cut : ℕ → ℕ → ℕ → Result DepthFigures DepthFault
cut d s n = Ok (record { cut = below d; sailing = below s; columns = n })

-- S, two lanes, P 100, bed 0, z2 31 over bed 578 and 577, speed 12 over bed 610 and 600
abbrev pub cases : List Stretch
cases =
    S 500 8 30 0 One
    ∷ S 500 8 30 0 Two
    ∷ S 500 8 30 100 One
    ∷ S 0 8 30 0 One
    ∷ S 578 8 31 0 One
    ∷ S 577 8 31 0 One
    ∷ S 610 12 30 0 One
    ∷ S 600 12 30 0 One
    ∷ []

-- the depth of each; the last is refused, by 13
abbrev pub figures : List (Result DepthFigures DepthFault)
figures =
    cut 1170 1170 2
    ∷ cut 1210 1210 2
    ∷ cut 1245 1170 2
    ∷ cut 1180 1180 2
    ∷ cut 1156 1156 1
    ∷ cut 1171 1171 2
    ∷ cut 1220 1220 1
    ∷ Err NoSquatEntry
    ∷ []
