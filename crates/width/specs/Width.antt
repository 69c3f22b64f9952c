-- The width of a stretch without widening (section 5.4).
use Rattle.std.specs.Prelude.{ℕ, ◌+◌, ◌*◌, Result, Ok, Err}
use Rattle.laws.specs.Rounding.{up}
use Rattle.lanes.specs.declared.Lanes.{Lanes}
use Rattle.lanes.specs.declared.Lanes.TheVariants.{One, Two}
use Rattle.width.specs.declared.Stretch.{Stretch}
use Rattle.width.specs.declared.Entries.{Entries}
use Rattle.width.specs.declared.Items.{Items}
use Rattle.width.specs.Bands.{along_item}
use Rattle.width.specs.Additions.{lane_item, wind_item, aids_item, bed_item, depth_item, cargo_item, banks_item, passing_item, traffic_item}
use Rattle.width.specs.declared.WidthFault.{WidthFault}

-- the items of a stretch, with its entries
unfoldable pub items_of : Stretch → Entries → Items
items_of stretch entries =
    record {
      lane = lane_item stretch.handling;
      wind = wind_item entries.band stretch.wind;
      cross = entries.cross;
      along = along_item entries.band stretch.along;
      wave = entries.wave;
      aids = aids_item stretch.aids;
      bed = bed_item stretch.draft stretch.sailing stretch.bottom;
      depth = depth_item entries.water stretch.draft stretch.sailing;
      cargo = cargo_item entries.water stretch.cargo;
      banks = banks_item entries.band stretch.left stretch.right;
      passing = passing_item entries.water entries.band;
      traffic = traffic_item entries.water stretch.ships;
    }

-- the lane and the added W
abbrev pub lane_and_added : Items → ℕ
lane_and_added i = i.lane + i.wind + i.cross + i.along + i.wave + i.aids + i.bed + i.depth + i.cargo

-- one lane: lane + W + banks; two: twice lane and W, banks, passing, traffic
unfoldable pub tenths_of : Lanes → Items → ℕ
tenths_of One i = lane_and_added i + i.banks
tenths_of Two i = 2 * lane_and_added i + i.banks + i.passing + i.traffic

-- times beam / 10, rounded up once
unfoldable pub width_of : Stretch → Entries → ℕ
width_of stretch entries = up (tenths_of stretch.lanes (items_of stretch entries) * stretch.beam) 10

-- the figure of a stretch by the entries that it has or has not: its width in cm, 0 when refused
abbrev pub width_figure : Stretch → Result Entries WidthFault → ℕ
width_figure stretch (Ok entries) = width_of stretch entries
width_figure stretch (Err fault) = 0
