-- Where a design stands to the depth of its sheet: what it has of a cut, and why there is none. By the checks in their order.
use Rattle.std.specs.Prelude.{Result, Ok, Err}
use mathlib.Core.Path.{◌≡◌, refl}
use mathlib.Core.Bool.{Bool, true, false}
use mathlib.Core.List.{List}
use Prim.Native.Nat.{ℕ, ◌*◌}
use Rattle.laws.specs.Choice.{ifᵇ◌then◌else◌, ◌<ᵇ◌}
use Rattle.laws.proofs.Never.{never}
use Rattle.datum.specs.declared.Level.{Level}
use Rattle.sheet.specs.Sheets.{read_of}
use Rattle.sheet.specs.declared.Sheet.{Sheet}
use Rattle.depth.specs.Worksheet.{work_depth}
use Rattle.depth.specs.declared.DepthFigures.{DepthFigures}
use Rattle.width.specs.Bands.{entries_of}
use Rattle.width.specs.Bends.{bend_of}
use Rattle.width.specs.declared.Entries.{Entries}
use Rattle.speed.specs.Critical.{check_of}
use Rattle.design.specs.Design.{width_at, speed_section, figures_of, by_check, past_depth, by_depth, past_entries, by_entries, past_bend, by_bend, lanes_for, at_level, by_level, level_for, of_sheet, by_reading, design_at}
use Rattle.design.specs.Answers.{stretch_of}
use Rattle.design.specs.declared.Reason.TheVariants.{NoSheet, NoShip, NoLevel, NoWidth, NoDepth, NoSpeed}
use Rattle.both.specs.Both.{came_to, DesignedAt}
use Rattle.sheet.specs.declared.ReadFault.{ReadFault}
use Rattle.design.specs.declared.Reason.{Reason}
use Rattle.speed.specs.declared.SpeedFault.{SpeedFault}
use Rattle.design.specs.declared.Figures.{Figures}
use Rattle.width.specs.declared.WidthFault.{WidthFault}
use Rattle.depth.specs.declared.DepthFault.{DepthFault}
use Rattle.gauge.specs.declared.LevelFault.{LevelFault}

-- what an answer tells of the depth that it came to
abbrev pub Stands : Result Figures Reason → Result DepthFigures DepthFault → Type 0
Stands (Ok f) r = (g : DepthFigures) × (r ≡ Ok g) × (f.cut ≡ g.cut) × (f.sailing ≡ g.sailing)
Stands (Err (NoSheet fault)) r = Unit {0}
Stands (Err NoShip) r = Unit {0}
Stands (Err (NoLevel fault)) r = Unit {0}
Stands (Err (NoWidth fault)) r = Unit {0}
Stands (Err (NoDepth fault)) r = r ≡ Err fault
Stands (Err (NoSpeed fault)) r = (g : DepthFigures) × (r ≡ Ok g)

module _ (s : Sheet) (level : Level) where
  abbrev the_depth : Result DepthFigures DepthFault
  the_depth = work_depth (stretch_of s level)

  by_check_lem : (widening width : ℕ) (g : DepthFigures) → the_depth ≡ Ok g → (check : Result (Unit {0}) SpeedFault)
      → Stands (by_check (figures_of s level (lanes_for s) widening width g) check) the_depth
  unfolding figures_of
  by_check_lem widening width g e (Ok tt) = (g, e, refl, refl)
  by_check_lem widening width g e (Err fault) = (g, e)

  by_depth_lem : (widening : ℕ) (entries : Entries) (r : Result DepthFigures DepthFault) → the_depth ≡ r → Stands (by_depth s level (lanes_for s) widening entries r) the_depth
  unfolding past_depth
  by_depth_lem widening entries (Ok g) e =
      let width = width_at s (lanes_for s) entries g in
      by_check_lem widening width g e (check_of (speed_section s level width g.cut) s.speed)
  by_depth_lem widening entries (Err fault) e = e

  by_entries_lem : (widening : ℕ) (found : Result Entries WidthFault) → Stands (by_entries s level (lanes_for s) widening found) the_depth
  unfolding past_entries
  by_entries_lem widening (Ok entries) = by_depth_lem widening entries the_depth refl
  by_entries_lem widening (Err fault) = tt

  by_bend_lem : (bend : Result ℕ WidthFault) → Stands (by_bend s level (lanes_for s) bend) the_depth
  unfolding past_bend
  by_bend_lem (Ok cm) = by_entries_lem cm (entries_of s.water s.speed s.cross s.wave)
  by_bend_lem (Err fault) = tt

  pub stands : Stands (at_level s level) the_depth
  unfolding at_level
  stands = by_bend_lem (bend_of s.turn s.radius s.length s.speed (lanes_for s))

-- a design that came to its depth was read, had a level, and is the design at that
pub record Reached (bytes : List ℕ) (read : Result Level LevelFault) : Type 0 where
  pub at : DesignedAt bytes read
  pub designed : design_at bytes read ≡ at_level at.sheet at.level

module _ (bytes : List ℕ) (read : Result Level LevelFault) where
  had_level : (s : Sheet) → read_of bytes ≡ Ok s → design_at bytes read ≡ by_level s (level_for s.level read) → came_to (by_level s (level_for s.level read)) ≡ true → Reached bytes read
  had_level s good is came = go (level_for s.level read) refl came is
    where
      go : (found : Result Level LevelFault) → level_for s.level read ≡ found → came_to (by_level s found) ≡ true → design_at bytes read ≡ by_level s found → Reached bytes read
      go (Ok level) e came is = record { at = record { sheet = s; was_read = good; level = level; had = e }; designed = is }
      go (Err fault) e came is = never cc

  was_ship : (s : Sheet) → read_of bytes ≡ Ok s → (b : Bool) → design_at bytes read ≡ (ifᵇ b then Err NoShip else by_level s (level_for s.level read))
      → came_to (ifᵇ b then Err NoShip else by_level s (level_for s.level read)) ≡ true → Reached bytes read
  was_ship s good true is came = never cc
  was_ship s good false is came = had_level s good is came

  was_read : (r : Result Sheet ReadFault) → read_of bytes ≡ r → design_at bytes read ≡ by_reading r read → came_to (by_reading r read) ≡ true → Reached bytes read
  unfolding of_sheet
  was_read (Ok s) e is came = was_ship s e (s.length <ᵇ 3 * s.beam) is came
  was_read (Err fault) e is came = never cc

  pub reached : came_to (design_at bytes read) ≡ true → Reached bytes read
  unfolding design_at
  reached came = was_read (read_of bytes) refl refl came
