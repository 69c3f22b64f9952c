-- The starred cases compute to their figures.
use mathlib.Core.Path.{◌≡◌, refl}
use Rattle.width.specs.Bands.{water_of, speed_band_of, cross_entry, along_item, wave_entry, entries_of}
use Rattle.width.specs.Additions.{lane_item, wind_item, aids_item, bed_item, depth_item, cargo_item, bank_item, banks_item, passing_item, traffic_item}
use Rattle.width.specs.Width.{items_of, tenths_of, width_of}
use Rattle.width.specs.Bends.{least_lengths, widening_of, bend_of}
use Rattle.width.specs.Starred.{cases, figures}

pub computed : cases ≡ figures
unfolding water_of speed_band_of cross_entry along_item wave_entry entries_of lane_item wind_item aids_item bed_item depth_item cargo_item bank_item banks_item passing_item traffic_item items_of tenths_of width_of least_lengths widening_of bend_of
computed = refl
