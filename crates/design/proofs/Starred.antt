-- The starred cases, each computed from the bytes of its sheet.
use Rattle.std.specs.Prelude.{Ok}
use mathlib.Core.Path.{◌≡◌, refl}
use mathlib.Core.List.{List, map}
use Prim.Native.Nat.{ℕ}
use Rattle.laws.specs.First.{first_from}
use Rattle.datum.specs.Datum.{natural_depth, datum_depth}
use Rattle.sheet.specs.Bits.{starts, joined, cut}
use Rattle.sheet.specs.Fields.{fields, field_at, width, least, greatest, pair_bad, bad_at, first_bad}
use Rattle.sheet.specs.Packing.{listed, number_of, groups_of, bytes_of}
use Rattle.sheet.specs.Sheets.{level_source_of, sheet_of, sheet_from, bed_figure, figures_of, read_groups, read_of}
use Rattle.sheet.specs.declared.Sheet.{Sheet}
use Rattle.lanes.specs.Lanes.{by_traffic, lanes_of}
use Rattle.depth.specs.Interval.{interval_of}
use Rattle.depth.specs.Squat.{squat_entry}
use Rattle.depth.specs.Depth.{z3, column_of, sailing, sailing_with}
use Rattle.depth.specs.Worksheet.{silt_over, silt, figure, column_try, finding_of, moves_on, walk, tries, answer_of, work_depth}
use Rattle.width.specs.Bands.{water_of, speed_band_of, cross_entry, along_item, wave_entry, entries_of}
use Rattle.width.specs.Additions.{lane_item, wind_item, aids_item, bed_item, depth_item, cargo_item, bank_item, banks_item, passing_item, traffic_item}
use Rattle.width.specs.Width.{items_of, tenths_of, width_of}
use Rattle.width.specs.Bends.{least_lengths, widening_of, bend_of}
use Rattle.speed.specs.Table.{full_row, entry, point_of}
use Rattle.speed.specs.Lines.{part, weighed, straight}
use Rattle.speed.specs.Critical.{critical_speed, against, check_of}
use Rattle.class.specs.Classes.{class_by}
use Rattle.design.specs.Design.{figures_of as design_figures, past_depth, past_entries, past_bend, at_level, of_sheet, design_at, design_of}
use Rattle.design.specs.Numbers.{numbers_of}
use Rattle.design.specs.Starred.{writing, starred_sheets, starred_numbers}

pub starred_read : map (λ (s : Sheet). read_of (writing s)) starred_sheets ≡ map Ok starred_sheets
unfolding starts joined cut first_from fields field_at width least greatest pair_bad bad_at first_bad listed number_of groups_of bytes_of level_source_of sheet_of sheet_from bed_figure figures_of read_groups read_of
starred_read = refl

-- no case has its level off the record, so the table may be any
pub starred : (table : List ℕ) → map (λ (s : Sheet). numbers_of (design_of (writing s) table)) starred_sheets ≡ starred_numbers
unfolding starts joined cut first_from fields field_at width least greatest pair_bad bad_at first_bad listed number_of groups_of bytes_of level_source_of sheet_of sheet_from bed_figure figures_of read_groups read_of squat_entry z3 column_of sailing sailing_with silt_over silt figure column_try finding_of moves_on walk tries answer_of work_depth interval_of natural_depth datum_depth by_traffic lanes_of water_of speed_band_of cross_entry along_item wave_entry entries_of lane_item wind_item aids_item bed_item depth_item cargo_item bank_item banks_item passing_item traffic_item items_of tenths_of width_of least_lengths widening_of bend_of full_row entry point_of part weighed straight critical_speed against check_of class_by design_figures past_depth past_entries past_bend at_level of_sheet design_at design_of numbers_of
starred table = refl
