-- What the figures of a sheet are (sections 3 to 7), the section whose critical speed they ask for (section 13), and how they were worked.
use Rattle.std.specs.Prelude.{◌≡◌, ℕ, pos, length, Result, Ok}
use Rattle.laws.specs.Extremes.{Least}
use Rattle.datum.specs.Datum.{datum_depth}
use Rattle.datum.specs.declared.Level.{Level}
use Rattle.sheet.specs.declared.Sheet.{Sheet}
use Rattle.depth.specs.Depth.{sailing, own_column, Meets}
use Rattle.depth.specs.Worksheet.{tries, worksheet_of, work_depth}
use Rattle.depth.specs.declared.Stretch.{Stretch as DepthStretch}
use Rattle.width.specs.Bands.{entries_of}
use Rattle.width.specs.Bends.{bend_of, widening_figure}
use Rattle.width.specs.Width.{width_of, width_figure}
use Rattle.width.specs.declared.Entries.{Entries}
use Rattle.speed.specs.Critical.{check_of}
use Rattle.speed.specs.declared.Section.{Section}
use Rattle.class.specs.Classes.{ship_class, width_class, depth_class, classes_of}
use Rattle.design.specs.Design.{level_for, depth_stretch, width_stretch, speed_section, lanes_for}
use Rattle.design.specs.declared.Figures.{Figures}
use Rattle.gauge.specs.declared.LevelFault.{LevelFault}

-- the stretch whose depth a sheet asks for at a level, in the lanes of the lane rule
abbrev pub stretch_of : Sheet → Level → DepthStretch
stretch_of s level = depth_stretch s level (lanes_for s)

-- the width of a sheet at its sailing depth, and its widening
abbrev pub width_in : Sheet → Figures → ℕ
width_in s f = width_figure (width_stretch s (lanes_for s) f.sailing) (entries_of s.water s.speed s.cross s.wave)

abbrev pub widening_in : Sheet → ℕ
widening_in s = widening_figure (bend_of s.turn s.radius s.length s.speed (lanes_for s))

-- the figures of a sheet at a level are these, and no others
pub record FiguresAre (s : Sheet) (design-level : Level) (f : Figures) : Type 0 where
  pub level : f.level ≡ design-level
  -- by the lane rule
  pub lanes : f.lanes ≡ lanes_for s
  -- the least cut that meets the definition, and the s of its column
  pub cut : Least (Meets (stretch_of s design-level)) f.cut.0
  pub sailing_depth : f.sailing.0 ≡ sailing (stretch_of s design-level) (own_column (stretch_of s design-level) f.cut.0)
  -- as many as the worksheet tries
  pub columns : f.columns ≡ length (tries (stretch_of s design-level))
  pub datum_depth_is : f.datum ≡ datum_depth f.cut design-level
  -- the width without widening, and the widening apart
  pub width : f.width ≡ pos (width_in s f)
  pub widening : f.widening ≡ pos (widening_in s)
  pub ship_class_is : f.classes.ship ≡ ship_class s.deadweight
  pub width_class_is : f.classes.width ≡ width_class (lanes_for s) (width_in s f)
  pub depth_class_is : f.classes.depth ≡ depth_class f.sailing

-- the section of a sheet at a level, by its figures
abbrev pub section_of : Sheet → Level → Figures → Section
section_of s level f = speed_section s level (width_in s f) f.cut

-- how the figures of a sheet were worked at a level that was read, room by room: what each call that they came through gave
pub record WorkedFrom (s : Sheet) (read : Result Level LevelFault) (f : Figures) : Type 0 where
  pub level_had : level_for s.level read ≡ Ok f.level
  pub lanes_had : f.lanes ≡ lanes_for s
  pub depth_worked : work_depth (depth_stretch s f.level f.lanes) ≡ Ok (record { cut = f.cut; sailing = f.sailing; columns = f.columns })
  pub columns_tried : f.columns ≡ (worksheet_of (depth_stretch s f.level f.lanes)).count
  pub entries : Entries
  pub entered : entries_of s.water s.speed s.cross s.wave ≡ Ok entries
  pub width_worked : f.width ≡ pos (width_of (width_stretch s f.lanes f.sailing) entries)
  pub widening : ℕ
  pub bent : bend_of s.turn s.radius s.length s.speed f.lanes ≡ Ok widening
  pub widening_worked : f.widening ≡ pos widening
  pub datum_worked : f.datum ≡ datum_depth f.cut f.level
  pub speed_allowed : check_of (speed_section s f.level (width_of (width_stretch s f.lanes f.sailing) entries) f.cut) s.speed ≡ (Ok tt)
  pub classes_worked : f.classes ≡ classes_of s.deadweight (width_of (width_stretch s f.lanes f.sailing) entries) f.lanes f.sailing
