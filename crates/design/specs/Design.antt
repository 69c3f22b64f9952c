-- A design: the checks of section 8 in their order, and the figures of a sheet that passes them, room by room.
-- What it means stands beside it, with no word of a check: `Refusals.antt` has the row of each number, `Answers.antt` what the figures are,
-- `Harder.antt` demand 3.
use Rattle.std.specs.Prelude.{ℕ, ◌*◌, List, pos, Result, Ok, Err}
use Rattle.laws.specs.Choice.{ifᵇ◌then◌else◌, ◌<ᵇ◌}
use Rattle.datum.specs.Datum.{natural_depth, datum_depth}
use Rattle.datum.specs.declared.Level.{Level}
use Rattle.datum.specs.declared.BelowLevel.{BelowLevel}
use Rattle.sheet.specs.Sheets.{read_of}
use Rattle.sheet.specs.declared.Sheet.{Sheet}
use Rattle.sheet.specs.declared.LevelSource.{LevelSource}
use Rattle.sheet.specs.declared.LevelSource.TheVariants.{FromRecord, Given}
use Rattle.gauge.specs.Designing.{design_level}
use Rattle.lanes.specs.Lanes.{lanes_of}
use Rattle.lanes.specs.declared.Lanes.{Lanes}
use Rattle.depth.specs.Interval.{interval_of}
use Rattle.depth.specs.Worksheet.{work_depth}
use Rattle.depth.specs.declared.Stretch.{Stretch as DepthStretch}
use Rattle.depth.specs.declared.DepthFigures.{DepthFigures}
use Rattle.width.specs.Bands.{entries_of}
use Rattle.width.specs.Bends.{bend_of}
use Rattle.width.specs.Width.{width_of}
use Rattle.width.specs.declared.Stretch.{Stretch as WidthStretch}
use Rattle.width.specs.declared.Entries.{Entries}
use Rattle.speed.specs.Critical.{check_of}
use Rattle.speed.specs.declared.Section.{Section}
use Rattle.class.specs.Classes.{classes_of}
use Rattle.design.specs.declared.Figures.{Figures}
use Rattle.design.specs.declared.Reason.TheVariants.{NoSheet, NoShip, NoLevel, NoWidth, NoDepth, NoSpeed}
use Rattle.sheet.specs.declared.ReadFault.{ReadFault}
use Rattle.design.specs.declared.Reason.{Reason}
use Rattle.speed.specs.declared.SpeedFault.{SpeedFault}
use Rattle.width.specs.declared.WidthFault.{WidthFault}
use Rattle.depth.specs.declared.DepthFault.{DepthFault}
use Rattle.gauge.specs.declared.LevelFault.{LevelFault}

-- what the depth of a sheet is worked from, at a level and in its lanes
abbrev pub depth_stretch : Sheet → Level → Lanes → DepthStretch
depth_stretch s level lanes =
    record {
      draft = s.draft;
      length = s.length;
      soil = s.soil;
      allowance = s.allowance;
      silting = s.silting;
      interval = interval_of s.interval;
      natural = natural_depth s.bed level;
      speed = s.speed;
      lanes = lanes;
    }

-- what its width is worked from beside its entries, in its lanes and at its sailing depth
abbrev pub width_stretch : Sheet → Lanes → BelowLevel → WidthStretch
width_stretch s lanes sailing =
    record {
      beam = s.beam;
      draft = s.draft;
      handling = s.handling;
      wind = s.wind;
      along = s.along;
      aids = s.aids;
      bottom = s.bottom;
      cargo = s.cargo;
      left = s.left;
      right = s.right;
      ships = s.ships;
      lanes = lanes;
      sailing = sailing;
    }

-- its width without widening, at its depth
abbrev pub width_at : Sheet → Lanes → Entries → DepthFigures → ℕ
width_at s lanes entries depth = width_of (width_stretch s lanes depth.sailing) entries

-- what its critical speed is worked from: its natural depth, its cut, and its width without widening
abbrev pub speed_section : Sheet → Level → ℕ → BelowLevel → Section
speed_section s level width cut = record { natural = natural_depth s.bed level; cut = cut; width = width; slope = s.slope }

-- the figures of a sheet: level, lanes, depth, width, widening and classes
unfoldable pub figures_of : Sheet → Level → Lanes → ℕ → ℕ → DepthFigures → Figures
figures_of s level lanes widening width depth =
    record {
      level = level;
      lanes = lanes;
      sailing = depth.sailing;
      cut = depth.cut;
      datum = datum_depth depth.cut level;
      width = pos width;
      widening = pos widening;
      columns = depth.columns;
      classes = classes_of s.deadweight width lanes depth.sailing;
    }

-- 16, 17: a speed that is not allowed, for the speed's own reason
abbrev pub by_check : Figures → Result (Unit {0}) SpeedFault → Result Figures Reason
by_check figures (Ok tt) = Ok figures
by_check figures (Err fault) = Err (NoSpeed fault)

unfoldable pub past_depth : Sheet → Level → Lanes → ℕ → ℕ → DepthFigures → Result Figures Reason
past_depth s level lanes widening width depth =
    by_check (figures_of s level lanes widening width depth) (check_of (speed_section s level width depth.cut) s.speed)

-- 13, 14, 15: no depth, for the depth's own reason
abbrev pub by_depth : Sheet → Level → Lanes → ℕ → Entries → Result DepthFigures DepthFault → Result Figures Reason
by_depth s level lanes widening entries (Ok depth) = past_depth s level lanes widening (width_at s lanes entries depth) depth
by_depth s level lanes widening entries (Err fault) = Err (NoDepth fault)

unfoldable pub past_entries : Sheet → Level → Lanes → ℕ → Entries → Result Figures Reason
past_entries s level lanes widening entries = by_depth s level lanes widening entries (work_depth (depth_stretch s level lanes))

-- 8: no width entry, which is known before the depth is
abbrev pub by_entries : Sheet → Level → Lanes → ℕ → Result Entries WidthFault → Result Figures Reason
by_entries s level lanes widening (Ok entries) = past_entries s level lanes widening entries
by_entries s level lanes widening (Err fault) = Err (NoWidth fault)

unfoldable pub past_bend : Sheet → Level → Lanes → ℕ → Result Figures Reason
past_bend s level lanes widening = by_entries s level lanes widening (entries_of s.water s.speed s.cross s.wave)

-- 7: the bend is too tight
abbrev pub by_bend : Sheet → Level → Lanes → Result ℕ WidthFault → Result Figures Reason
by_bend s level lanes (Ok cm) = past_bend s level lanes cm
by_bend s level lanes (Err fault) = Err (NoWidth fault)

abbrev pub lanes_for : Sheet → Lanes
lanes_for s = lanes_of s.lanes s.channel s.ships s.speed

-- a sheet at a level
unfoldable pub at_level : Sheet → Level → Result Figures Reason
at_level s level = by_bend s level (lanes_for s) (bend_of s.turn s.radius s.length s.speed (lanes_for s))

-- 4, 5, 6: what a level off the record may be refused for
abbrev pub by_level : Sheet → Result Level LevelFault → Result Figures Reason
by_level s (Ok level) = at_level s level
by_level s (Err fault) = Err (NoLevel fault)

-- the level of a sheet: its own, or the one read off the record
abbrev pub level_for : LevelSource → Result Level LevelFault → Result Level LevelFault
level_for FromRecord read = read
level_for (Given level) read = Ok level

-- 18: the length is under three beams
unfoldable pub of_sheet : Sheet → Result Level LevelFault → Result Figures Reason
of_sheet s read = ifᵇ s.length <ᵇ 3 * s.beam then Err NoShip else by_level s (level_for s.level read)

-- 1, 2, 3: what bytes may be refused for
abbrev pub by_reading : Result Sheet ReadFault → Result Level LevelFault → Result Figures Reason
by_reading (Ok s) read = of_sheet s read
by_reading (Err fault) read = Err (NoSheet fault)

-- a design at a level that is already read off the record
unfoldable pub design_at : List ℕ → Result Level LevelFault → Result Figures Reason
design_at bytes read = by_reading (read_of bytes) read

-- a design over a table is one at the level that the table gives
unfoldable pub design_of : List ℕ → List ℕ → Result Figures Reason
design_of bytes table = design_at bytes (design_level table)
