-- The rows lead to the answer of a design: from the last room to the first, each tells of its own rows and hands on what it found.
use Rattle.std.specs.Prelude.{Result, Ok, Err}
use mathlib.Core.Path.{◌≡◌, refl, sym, ap, subst, subst⁻¹}
use mathlib.Core.List.{List, []}
use mathlib.Core.Logic.{◌≢◌}
use Prim.Native.Nat.{ℕ, ◌*◌}
use native.Mathlib.Omega.{arith}
use lib.IntN.{pos}
use borrow.Author.Tests.{ltb-true, ltb-false}
use Rattle.laws.specs.Choice.{◌<ᵇ◌}
use Rattle.laws.specs.Rows.{◌when◌}
use Rattle.laws.proofs.Rows.{Told, Call, from, onward, tested}
use Rattle.datum.specs.declared.Level.{Level}
use Rattle.sheet.specs.Packing.{Bytes}
use Rattle.sheet.specs.Sheets.{read_of}
use Rattle.sheet.specs.Refusals.{read_rows, read_number}
use Rattle.sheet.specs.declared.Sheet.{Sheet}
use Rattle.sheet.specs.declared.ReadFault.TheVariants.{WrongLength, SpareBitSet, BadField}
use Rattle.sheet.proofs.sheets.Reading.{Unread, reads, read_told}
use Rattle.gauge.specs.Designing.{design_level, level_number, level_rows}
use Rattle.gauge.specs.declared.LevelFault.TheVariants.{WrongTable, TooFewReadings, RangeTooWide}
use Rattle.gauge.proofs.Refusals.{NotFound}
use Rattle.lanes.specs.declared.Lanes.{Lanes}
use Rattle.depth.specs.Depth.{depth_number, depth_fault_number}
use Rattle.depth.specs.Reasons.{depth_rows}
use Rattle.depth.specs.Worksheet.{work_depth}
use Rattle.depth.specs.declared.Stretch.{Stretch as DepthStretch}
use Rattle.depth.specs.declared.DepthFault.{DepthFault}
use Rattle.depth.specs.declared.DepthFault.TheVariants.{NoSquatEntry, SiltOver, CutOver}
use Rattle.depth.specs.declared.DepthFigures.{DepthFigures}
use Rattle.depth.proofs.Refusals.{Worked, depths, depth_told}
use Rattle.width.specs.Bands.{entries_of}
use Rattle.width.specs.Bends.{bend_of}
use Rattle.width.specs.Width.{width_figure}
use Rattle.width.specs.Refusals.{bend_rows, bend_number, entries_rows, entries_number}
use Rattle.width.specs.declared.Entries.{Entries}
use Rattle.width.proofs.Refusals.{entering, entries_told, bends, bend_told}
use Rattle.speed.specs.Critical.{check_of}
use Rattle.speed.specs.Refusals.{speed_fault_number, check_number, speed_rows}
use Rattle.speed.specs.declared.Section.{Section}
use Rattle.speed.specs.declared.SpeedFault.{SpeedFault}
use Rattle.speed.specs.declared.SpeedFault.TheVariants.{PointMissing, TooFast}
use Rattle.speed.proofs.Refusals.{checks, check_told}
use Rattle.class.specs.Classes.{width_class}
use Rattle.design.specs.Design.{width_stretch, width_at, speed_section, figures_of, by_check, past_depth, by_depth, past_entries, by_entries, past_bend, by_bend, lanes_for, at_level, by_level, level_for, of_sheet, by_reading, design_at, design_of}
use Rattle.design.specs.Numbers.{code_of}
use Rattle.design.specs.Refusals.{NamesFirst, sheet_in, UnderThreeBeams, level_in, off_record, rows}
use Rattle.design.specs.Answers.{stretch_of, widening_in, FiguresAre, section_of}
use Rattle.design.specs.declared.Figures.{Figures}
use Rattle.design.specs.declared.Reason.TheVariants.{NoShip}
use Rattle.design.proofs.rows.Rooms.{levels_from, level_told, speed_told}
use Rattle.sheet.specs.declared.ReadFault.{ReadFault}
use Rattle.design.specs.declared.Reason.{Reason}
use Rattle.gauge.specs.declared.LevelFault.{LevelFault}
use Rattle.width.specs.declared.WidthFault.TheVariants.{BendTooTight, NoWidthEntry}
use Rattle.width.specs.declared.WidthFault.{WidthFault}

-- what is told of a design: an answered one has the figures of its sheet at its level, a refused one names the first bad field
abbrev pub Right : List ℕ → List ℕ → Result Figures Reason → Type 0
Right bytes table (Ok f) = FiguresAre (sheet_in bytes) (level_in (sheet_in bytes) table) f
Right bytes table (Err r) = ⊥

abbrev pub Named : List ℕ → Result Figures Reason → Type 0
Named bytes (Ok f) = ⊥
Named bytes (Err r) = NamesFirst bytes r

abbrev pub designs : List ℕ → List ℕ → Call (Result Figures Reason)
designs bytes table = record { number = code_of; answered = Right bytes table; refused = Named bytes }

module _ (bytes table : List ℕ) where
  -- the rows from one on lead to an answer
  abbrev From : ℕ → Result Figures Reason → Type 0
  From number a = Told (designs bytes table) (from number (rows bytes table)) a

  -- a refusal that a room hands on: the same number, and no field but the first bad one
  abbrev Handed : ℕ → Result Figures Reason → Type 0
  Handed number a = (code_of a ≡ number) × Named bytes a

  abbrev sheet : Sheet
  sheet = sheet_in bytes

  abbrev level : Level
  level = level_in sheet table

  abbrev lanes : Lanes
  lanes = lanes_for sheet

  abbrev stretch : DepthStretch
  stretch = stretch_of sheet level

  abbrev entries_found : Result Entries WidthFault
  entries_found = entries_of sheet.water sheet.speed sheet.cross sheet.wave

  -- past them all stand the figures
  module _ (entries : Entries) (entered : entries_found ≡ Ok entries) where
    abbrev figures_with : DepthFigures → Figures
    figures_with depth = figures_of sheet level lanes (widening_in sheet) (width_at sheet lanes entries depth) depth

    figures_are : (d : Result DepthFigures DepthFault) (worked : Worked stretch d) → FiguresAre sheet level (figures_with worked.figures)
    unfolding figures_of
    figures_are d worked =
        let w = width_stretch sheet lanes worked.figures.sailing in
        record {
          level = refl;
          lanes = refl;
          cut = worked.meant.cut;
          sailing_depth = worked.meant.sailing_depth;
          columns = worked.counted;
          datum_depth_is = refl;
          width = ap (λ (found : Result Entries WidthFault). pos (width_figure w found)) (sym entered);
          widening = refl;
          ship_class_is = refl;
          width_class_is = ap (λ (found : Result Entries WidthFault). width_class lanes (width_figure w found)) (sym entered);
          depth_class_is = refl;
        }

    -- 16, 17
    speed_other : (fault : SpeedFault) → speed_fault_number fault ≢ 3
    speed_other PointMissing three = omega arith
    speed_other TooFast three = omega arith

    speed_handed : (f : Figures) (c : Result (Unit {0}) SpeedFault) → (fault : SpeedFault) × (c ≡ Err fault) → Handed (check_number c) (by_check f c)
    speed_handed f c none = rw none.1 (refl, λ three. absurd (speed_other none.0 three))

    section_is : (depth : DepthFigures) → speed_section sheet level (width_at sheet lanes entries depth) depth.cut ≡ section_of sheet level (figures_with depth)
    unfolding figures_of
    section_is depth =
        ap (λ (found : Result Entries WidthFault). speed_section sheet level (width_figure (width_stretch sheet lanes depth.sailing) found) depth.cut) (sym entered)

    past_depth_told : (d : Result DepthFigures DepthFault) (worked : Worked stretch d)
        → From 16 (past_depth sheet level lanes (widening_in sheet) (width_at sheet lanes entries worked.figures) worked.figures)
    unfolding past_depth rows
    past_depth_told d worked =
        let f = figures_with worked.figures in
        let are = figures_are d worked in
        let q = speed_section sheet level (width_at sheet lanes entries worked.figures) worked.figures.cut in
        onward checks (designs bytes table) (by_check f) (speed_handed f) (from 16 (rows bytes table)) [] (check_of q sheet.speed)
        (speed_told sheet level f are (check_of q sheet.speed)
        (subst (λ (section : Section). Told checks (speed_rows section sheet.speed) (check_of q sheet.speed)) (section_is worked.figures)
        (check_told q sheet.speed)))
        (λ allowed. subst⁻¹ (λ (c : Result (Unit {0}) SpeedFault). Told (designs bytes table) [] (by_check f c)) allowed (refl, are))

    -- 13, 14, 15
    abbrev at_depth : Result DepthFigures DepthFault → Result Figures Reason
    at_depth = by_depth sheet level lanes (widening_in sheet) entries

    depth_other : (fault : DepthFault) → depth_fault_number fault ≢ 3
    depth_other NoSquatEntry three = omega arith
    depth_other SiltOver three = omega arith
    depth_other CutOver three = omega arith

    depth_handed : (d : Result DepthFigures DepthFault) → (fault : DepthFault) × (d ≡ Err fault) → Handed (depth_number d) (at_depth d)
    depth_handed d none = rw none.1 (refl, λ three. absurd (depth_other none.0 three))

    past_entries_told : From 13 (past_entries sheet level lanes (widening_in sheet) entries)
    unfolding past_entries rows
    past_entries_told =
        onward (depths stretch) (designs bytes table) at_depth depth_handed (depth_rows stretch) (from 16 (rows bytes table)) (work_depth stretch) (depth_told stretch)
        (λ worked. subst⁻¹ (λ (d : Result DepthFigures DepthFault). From 16 (at_depth d)) worked.is (past_depth_told (work_depth stretch) worked))

  -- 8
  abbrev at_entries : Result Entries WidthFault → Result Figures Reason
  at_entries = by_entries sheet level lanes (widening_in sheet)

  entries_handed : (found : Result Entries WidthFault) → found ≡ (Err NoWidthEntry) → Handed (entries_number found) (at_entries found)
  entries_handed found e = rw e (refl, λ three. absurd (omega arith))

  past_bend_told : From 8 (past_bend sheet level lanes (widening_in sheet))
  unfolding past_bend rows
  past_bend_told =
      onward entering (designs bytes table) at_entries entries_handed (entries_rows sheet.water sheet.cross sheet.wave)
      (from 13 (rows bytes table)) entries_found (entries_told sheet.water sheet.speed sheet.cross sheet.wave)
      (λ e. subst⁻¹ (λ (found : Result Entries WidthFault). From 13 (at_entries found)) e.1 (past_entries_told e.0 e.1))

  -- 7
  abbrev bend : Result ℕ WidthFault
  bend = bend_of sheet.turn sheet.radius sheet.length sheet.speed lanes

  bend_handed : (b : Result ℕ WidthFault) → b ≡ (Err BendTooTight) → Handed (bend_number b) (by_bend sheet level lanes b)
  bend_handed b e = rw e (refl, λ three. absurd (omega arith))

  at_level_told : From 7 (at_level sheet level)
  unfolding at_level rows
  at_level_told =
      onward bends (designs bytes table) (by_bend sheet level lanes) bend_handed (bend_rows sheet.turn sheet.radius sheet.length)
      (from 8 (rows bytes table)) bend (bend_told sheet.turn sheet.radius sheet.length sheet.speed lanes)
      (λ e. subst⁻¹ (λ (b : Result ℕ WidthFault). From 8 (by_bend sheet level lanes b)) e past_bend_told)

  -- 4, 5, 6
  level_handed : (read : Result Level LevelFault) → NotFound read → Handed (level_number read) (by_level sheet read)
  level_handed (Ok found) none = absurd none
  level_handed (Err WrongTable) none = (refl, λ three. absurd (omega arith))
  level_handed (Err TooFewReadings) none = (refl, λ three. absurd (omega arith))
  level_handed (Err RangeTooWide) none = (refl, λ three. absurd (omega arith))

  past_ship_told : From 4 (by_level sheet (level_for sheet.level (design_level table)))
  unfolding rows
  past_ship_told =
      onward (levels_from sheet.level table) (designs bytes table) (by_level sheet) level_handed (off_record sheet.level (level_rows table))
      (from 7 (rows bytes table)) (level_for sheet.level (design_level table)) (level_told sheet.level table)
      (λ e. subst⁻¹ (λ (read : Result Level LevelFault). From 7 (by_level sheet read)) e at_level_told)

  -- 18
  of_sheet_told : From 18 (of_sheet sheet (design_level table))
  unfolding of_sheet rows
  of_sheet_told =
      tested (designs bytes table) (18 when UnderThreeBeams sheet) (from 4 (rows bytes table)) (sheet.length <ᵇ 3 * sheet.beam) (Err NoShip) _
      (ltb-true sheet.length (3 * sheet.beam)) (λ t under. let over = ltb-false sheet.length (3 * sheet.beam) t in omega arith)
      (refl, λ three. absurd (omega arith)) past_ship_told

  -- 1, 2, 3
  abbrev reading : Result Sheet ReadFault → Result Figures Reason
  reading read = by_reading read (design_level table)

  reading_handed : (read : Result Sheet ReadFault) → Unread bytes read → Handed (read_number read) (reading read)
  reading_handed (Ok s) none = absurd none
  reading_handed (Err WrongLength) none = (refl, λ three. absurd (omega arith))
  reading_handed (Err SpareBitSet) none = (refl, λ three. absurd (omega arith))
  reading_handed (Err (BadField k)) first = (refl, λ three. first)

  pub told : Bytes bytes → Told (designs bytes table) (rows bytes table) (design_of bytes table)
  unfolding design_of design_at rows
  told small =
      onward (reads bytes) (designs bytes table) reading reading_handed (read_rows bytes) (from 18 (rows bytes table)) (read_of bytes)
      (read_told bytes small) (λ e. subst⁻¹ (λ (read : Result Sheet ReadFault). From 18 (reading read)) e of_sheet_told)
