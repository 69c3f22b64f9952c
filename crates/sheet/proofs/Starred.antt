-- The starred case of the sheet: case S is read and written as the definition has it, by computing.
use Rattle.std.specs.Prelude.{Ok}
use mathlib.Core.Path.{◌≡◌, refl}
use Rattle.laws.specs.First.{first_from}
use Rattle.sheet.specs.Bits.{starts, joined, cut}
use Rattle.sheet.specs.Fields.{fields, field_at, width, least, greatest, pair_bad, bad_at, first_bad}
use Rattle.sheet.specs.Packing.{listed, number_of, groups_of, bytes_of}
use Rattle.sheet.specs.Sheets.{level_source_of, sheet_of, bed_figure, figures_of, sheet_from, read_groups, read_of}
use Rattle.sheet.specs.CaseS.{sheet_s, bytes_s}

pub s_read : read_of bytes_s ≡ Ok sheet_s
unfolding starts joined cut first_from fields field_at width least greatest pair_bad bad_at first_bad listed number_of groups_of level_source_of sheet_of sheet_from read_groups read_of
s_read = refl

pub s_written : bytes_of (figures_of sheet_s) ≡ bytes_s
unfolding starts joined cut fields field_at width listed bytes_of bed_figure figures_of
s_written = refl
