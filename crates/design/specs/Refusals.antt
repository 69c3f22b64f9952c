-- The numbers that turn a sheet away in a design: that of each reason, the field that it names, and the rows of section 8 in their order, each as it is meant.
use Rattle.std.proofs.Common.{lit≤}
use Rattle.std.specs.Prelude.{◌≡◌, List, [], ◌∷◌, ◌≢◌, ℕ, ◌*◌, ◌<◌, ◌≤◌, length}
use Rattle.laws.specs.Extremes.{Least}
use Rattle.laws.specs.Rows.{Row, ◌when◌}
use Rattle.datum.specs.declared.Level.{Level}
use Rattle.sheet.specs.Fields.{Bad}
use Rattle.sheet.specs.Packing.{size, groups_of, SpareSet}
use Rattle.sheet.specs.Sheets.{sheet_of}
use Rattle.sheet.specs.Refusals.{SomeBad, read_fault_number, read_fault_some, read_fault_field}
use Rattle.sheet.specs.declared.Sheet.{Sheet}
use Rattle.sheet.specs.declared.LevelSource.{LevelSource}
use Rattle.sheet.specs.declared.LevelSource.TheVariants.{FromRecord, Given}
use Rattle.gauge.specs.Frequency.{held_level}
use Rattle.gauge.specs.Designing.{range_of, frequency_taken, TableUnfit, RecordShort, RangeWide, level_fault_number, level_fault_some}
use Rattle.depth.specs.Depth.{depth_fault_number, depth_fault_some}
use Rattle.depth.specs.Reasons.{FirstUnusable}
use Rattle.depth.specs.declared.DepthFault.{DepthFault}
use Rattle.depth.specs.declared.DepthFault.TheVariants.{NoSquatEntry, SiltOver, CutOver}
use Rattle.width.specs.Refusals.{TightBend, NoWidthEntry, width_fault_number, width_fault_some}
use Rattle.speed.specs.Refusals.{PointLacking, TooFast, speed_fault_number, speed_fault_some}
use Rattle.speed.specs.declared.Section.{Section}
use Rattle.design.specs.Design.{depth_stretch, lanes_for}
use Rattle.design.specs.Answers.{FiguresAre, section_of}
use Rattle.design.specs.declared.Figures.{Figures}
use Rattle.design.specs.declared.Reason.{Reason}
use Rattle.design.specs.declared.Reason.TheVariants.{NoSheet, NoShip, NoLevel, NoWidth, NoDepth, NoSpeed}

-- the number of each reason: 18 is the design's own, any other that of the room that turned the sheet away
abbrev pub reason_number : Reason → ℕ
reason_number (NoSheet fault) = read_fault_number fault
reason_number NoShip = 18
reason_number (NoLevel fault) = level_fault_number fault
reason_number (NoWidth fault) = width_fault_number fault
reason_number (NoDepth fault) = depth_fault_number fault
reason_number (NoSpeed fault) = speed_fault_number fault

-- the field, 0 unless the number is 3
abbrev pub reason_field : Reason → ℕ
reason_field (NoSheet fault) = read_fault_field fault
reason_field NoShip = 0
reason_field (NoLevel fault) = 0
reason_field (NoWidth fault) = 0
reason_field (NoDepth fault) = 0
reason_field (NoSpeed fault) = 0

-- no reason has the number of an answer
pub reason_some : (r : Reason) → 1 ≤ reason_number r
reason_some (NoSheet fault) = read_fault_some fault
reason_some NoShip = lit≤ tt
reason_some (NoLevel fault) = level_fault_some fault
reason_some (NoWidth fault) = width_fault_some fault
reason_some (NoDepth fault) = depth_fault_some fault
reason_some (NoSpeed fault) = speed_fault_some fault

-- where the number is 3, the field that is named is the first bad one
abbrev pub NamesFirst : List ℕ → Reason → Type 0
NamesFirst bytes r = reason_number r ≡ 3 → Least (Bad (groups_of bytes)) (reason_field r)

-- the sheet that bytes hold
abbrev pub sheet_in : List ℕ → Sheet
sheet_in bytes = sheet_of (groups_of bytes)

-- 18: the length is under three beams, as where the two have changed places
abbrev pub UnderThreeBeams : Sheet → Type 0
UnderThreeBeams s = s.length < 3 * s.beam

-- the level of a sheet: its own, or off the record that of the frequency which D takes
abbrev pub level_from : LevelSource → List ℕ → Level
level_from FromRecord table = held_level table (frequency_taken (range_of table))
level_from (Given level) table = level

abbrev pub level_in : Sheet → List ℕ → Level
level_in s table = level_from s.level table

-- 4, 5, 6: a fault of the table, when the level is read off it
pub record OffRecord (source : LevelSource) (Fault : Type 0) : Type 0 where
  pub off : source ≡ FromRecord
  pub fault : Fault

-- the rows of a level, when it is read off the record
abbrev pub off_record : LevelSource → List Row → List Row
off_record source [] = []
off_record source (row ∷ rows) = (row.number when OffRecord source row.holds) ∷ off_record source rows

-- 7: bend too tight, which is a turn with a radius under the least
abbrev pub BendTight : Sheet → Type 0
BendTight s = TightBend s.turn s.radius s.length

-- 8: no width entry, which is a cross current over 15 or a wave over 100 in sheltered water
abbrev pub EntryMissing : Sheet → Type 0
EntryMissing s = NoWidthEntry s.water s.cross s.wave

-- 13, 14, 15: no depth, as the first column that the worksheet cannot use has no squat entry, silt over 120, or a cut over 3,000
abbrev pub NoDepthBy : DepthFault → Sheet → Level → Type 0
NoDepthBy fault s level = FirstUnusable (depth_stretch s level (lanes_for s)) fault

-- 16, 17: a fault of the section that the sheet's figures at a level come to
pub record OfSection (s : Sheet) (level : Level) (Fault : Section → Type 0) : Type 0 where
  pub figures : Figures
  pub are : FiguresAre s level figures
  pub fault : Fault (section_of s level figures)

-- 16: a needed point of the critical speed is blank or outside its table
abbrev pub SpeedLacking : Sheet → Level → Type 0
SpeedLacking s level = OfSection s level PointLacking

-- 17: the speed is more than nine tenths of the critical speed
abbrev pub SpeedOver : Sheet → Level → Type 0
SpeedOver s level = OfSection s level (λ q. TooFast q s.speed)

-- the rows that turn a design away, in the order of the checks; 9 is retired, and 10, 11 and 12 are of other calls
unfoldable pub rows : List ℕ → List ℕ → List Row
rows bytes table =
    (1 when (length bytes ≢ size))
    ∷ (2 when SpareSet bytes)
    ∷ (3 when SomeBad (groups_of bytes))
    ∷ (18 when UnderThreeBeams (sheet_in bytes))
    ∷ (4 when OffRecord (sheet_in bytes).level (TableUnfit table))
    ∷ (5 when OffRecord (sheet_in bytes).level (RecordShort table))
    ∷ (6 when OffRecord (sheet_in bytes).level (RangeWide table))
    ∷ (7 when BendTight (sheet_in bytes))
    ∷ (8 when EntryMissing (sheet_in bytes))
    ∷ (13 when NoDepthBy NoSquatEntry (sheet_in bytes) (level_in (sheet_in bytes) table))
    ∷ (14 when NoDepthBy SiltOver (sheet_in bytes) (level_in (sheet_in bytes) table))
    ∷ (15 when NoDepthBy CutOver (sheet_in bytes) (level_in (sheet_in bytes) table))
    ∷ (16 when SpeedLacking (sheet_in bytes) (level_in (sheet_in bytes) table))
    ∷ (17 when SpeedOver (sheet_in bytes) (level_in (sheet_in bytes) table))
    ∷ []
