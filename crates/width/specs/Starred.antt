-- The starred cases of section 11 that are widths and bends: case S in one lane and in two, at its sailing depths, and three bends of its ship.
use Rattle.std.specs.Prelude.{List, [], ◌∷◌, ℕ, Result}
use Rattle.datum.specs.Datum.{below}
use Rattle.lanes.specs.declared.Lanes.{Lanes}
use Rattle.lanes.specs.declared.Lanes.TheVariants.{One, Two}
use Rattle.width.specs.declared.Stretch.{Stretch}
use Rattle.width.specs.Bands.{entries_of}
use Rattle.width.specs.Width.{width_figure}
use Rattle.width.specs.Bends.{bend_of, widening_figure}
use Rattle.width.specs.Refusals.{bend_number, entries_number}
use Rattle.width.specs.declared.WidthFault.{WidthFault}
use Rattle.width.specs.declared.Entries.{Entries}

-- case S, in its lanes and at its sailing depth
abbrev pub S : Lanes → ℕ → Stretch
S lanes sailing =
    record {
      beam = 3000;
      draft = 1000;
      handling = 0;
      wind = 20;
      along = record { 0 = 10 };
      aids = 1;
      bottom = 0;
      cargo = 0;
      left = 0;
      right = 0;
      ships = 2400;
      lanes = lanes;
      sailing = below sailing;
    }

-- its entries: open water, speed 8, cross current 10, wave 150
abbrev pub entries_of_s : Result Entries WidthFault
entries_of_s = entries_of 0 8 (record { 0 = 10 }) 150

-- a bend of its ship: turn 30 at a radius, in one lane
abbrev pub bend_of_s : ℕ → Result ℕ WidthFault
bend_of_s radius = bend_of 30 radius 20000 8 One

-- the number and the figure of an answer
pub record Case : Type 0 where
  pub number : ℕ
  pub figure : ℕ

abbrev pub width_case : Lanes → ℕ → Case
width_case lanes sailing = record { number = entries_number entries_of_s; figure = width_figure (S lanes sailing) entries_of_s }

abbrev pub bend_case : ℕ → Case
bend_case radius = record { number = bend_number (bend_of_s radius); figure = widening_figure (bend_of_s radius) }

abbrev pub cases : List Case
cases = width_case One 1170 ∷ width_case Two 1210 ∷ bend_case 1500 ∷ bend_case 2000 ∷ bend_case 999 ∷ []

-- S 14,400 wide, and 30,600 in two lanes; turn 30 at 1,500 m widened by 1,915, at 2,000 by 0, at 999 refused by 7
abbrev pub figures : List Case
figures =
    record { number = 0; figure = 14400 }
    ∷ record { number = 0; figure = 30600 }
    ∷ record { number = 0; figure = 1915 }
    ∷ record { number = 0; figure = 0 }
    ∷ record { number = 7; figure = 0 }
    ∷ []
