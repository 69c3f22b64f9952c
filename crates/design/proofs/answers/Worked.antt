-- An answered design came through every room: what each gave stands in its figures.
use Rattle.std.specs.Prelude.{Result, Ok, Err}
use mathlib.Core.Path.{◌≡◌, refl, subst}
use mathlib.Core.Bool.{Bool, true, false}
use mathlib.Core.List.{List}
use Prim.Native.Nat.{ℕ, ◌*◌}
use lib.Dec.{ltb}
use Rattle.laws.specs.Choice.{ifᵇ◌then◌else◌}
use Rattle.laws.proofs.Never.{never}
use Rattle.datum.specs.declared.Level.{Level}
use Rattle.sheet.specs.Sheets.{read_of}
use Rattle.sheet.specs.declared.Sheet.{Sheet}
use Rattle.lanes.specs.declared.Lanes.{Lanes}
use Rattle.depth.specs.Worksheet.{work_depth}
use Rattle.depth.specs.declared.DepthFigures.{DepthFigures}
use Rattle.depth.proofs.Promises.{columns_of_the_worksheet}
use Rattle.width.specs.Bands.{entries_of}
use Rattle.width.specs.Bends.{bend_of}
use Rattle.width.specs.declared.Entries.{Entries}
use Rattle.speed.specs.Critical.{check_of}
use Rattle.design.specs.Design.{depth_stretch, width_at, speed_section, figures_of, by_check, past_depth, by_depth, past_entries, by_entries, past_bend, by_bend, lanes_for, at_level, by_level, level_for, of_sheet, design_at}
use Rattle.design.specs.Answers.{WorkedFrom}
use Rattle.design.specs.declared.Figures.{Figures}
use Rattle.design.specs.declared.Reason.TheVariants.{NoShip}
use Rattle.speed.specs.declared.SpeedFault.{SpeedFault}
use Rattle.gauge.specs.declared.LevelFault.{LevelFault}
use Rattle.width.specs.declared.WidthFault.{WidthFault}
use Rattle.depth.specs.declared.DepthFault.{DepthFault}

module _ (s : Sheet) (read : Result Level LevelFault) (f : Figures) where
  abbrev lanes : Lanes
  lanes = lanes_for s

  module _ (level : Level) (had : level_for s.level read ≡ Ok level) where
    module _ (widening : ℕ) (bent : bend_of s.turn s.radius s.length s.speed lanes ≡ Ok widening) where
      module _ (entries : Entries) (entered : entries_of s.water s.speed s.cross s.wave ≡ Ok entries) where
        module _ (depth : DepthFigures) (worked : work_depth (depth_stretch s level lanes) ≡ Ok depth) where
          abbrev figures : Figures
          figures = figures_of s level lanes widening (width_at s lanes entries depth) depth

          abbrev check : Result (Unit {0}) SpeedFault
          check = check_of (speed_section s level (width_at s lanes entries depth) depth.cut) s.speed

          figures_from : check ≡ (Ok tt) → WorkedFrom s read figures
          unfolding figures_of
          figures_from allowed = record {
            level_had = had;
            lanes_had = refl;
            depth_worked = worked;
            columns_tried = columns_of_the_worksheet (depth_stretch s level lanes) depth worked;
            entries = entries;
            entered = entered;
            width_worked = refl;
            widening = widening;
            bent = bent;
            widening_worked = refl;
            datum_worked = refl;
            speed_allowed = allowed;
            classes_worked = refl;
          }

          past_depth_lem : past_depth s level lanes widening (width_at s lanes entries depth) depth ≡ Ok f → WorkedFrom s read f
          unfolding past_depth
          past_depth_lem = go check refl
            where
              go : (c : Result (Unit {0}) SpeedFault) → check ≡ c → by_check figures c ≡ Ok f → WorkedFrom s read f
              go (Ok tt) is e = let same : figures ≡ f = cc in subst (WorkedFrom s read) same (figures_from is)
              go (Err fault) is e = never cc

        past_entries_lem : past_entries s level lanes widening entries ≡ Ok f → WorkedFrom s read f
        unfolding past_entries
        past_entries_lem = go (work_depth (depth_stretch s level lanes)) refl
          where
            go : (d : Result DepthFigures DepthFault) → work_depth (depth_stretch s level lanes) ≡ d → by_depth s level lanes widening entries d ≡ Ok f → WorkedFrom s read f
            go (Ok depth) is e = past_depth_lem depth is e
            go (Err fault) is e = never cc

      past_bend_lem : past_bend s level lanes widening ≡ Ok f → WorkedFrom s read f
      unfolding past_bend
      past_bend_lem = go (entries_of s.water s.speed s.cross s.wave) refl
        where
          go : (found : Result Entries WidthFault) → entries_of s.water s.speed s.cross s.wave ≡ found → by_entries s level lanes widening found ≡ Ok f
              → WorkedFrom s read f
          go (Ok entries) is e = past_entries_lem entries is e
          go (Err fault) is e = never cc

    at_level_lem : at_level s level ≡ Ok f → WorkedFrom s read f
    unfolding at_level
    at_level_lem = go (bend_of s.turn s.radius s.length s.speed lanes) refl
      where
        go : (b : Result ℕ WidthFault) → bend_of s.turn s.radius s.length s.speed lanes ≡ b → by_bend s level lanes b ≡ Ok f → WorkedFrom s read f
        go (Ok cm) is e = past_bend_lem cm is e
        go (Err fault) is e = never cc

  of_sheet_lem : of_sheet s read ≡ Ok f → WorkedFrom s read f
  unfolding of_sheet
  of_sheet_lem = go (ltb s.length (3 * s.beam))
    where
      by_level_lem : (found : Result Level LevelFault) → level_for s.level read ≡ found → by_level s found ≡ Ok f → WorkedFrom s read f
      by_level_lem (Ok level) is e = at_level_lem level is e
      by_level_lem (Err fault) is e = never cc

      go : (b : Bool) → (ifᵇ b then Err NoShip else by_level s (level_for s.level read)) ≡ Ok f → WorkedFrom s read f
      go true e = never cc
      go false e = by_level_lem (level_for s.level read) refl e

pub answered_worked : (bytes : List ℕ) (read : Result Level LevelFault) (s : Sheet) (f : Figures) → read_of bytes ≡ Ok s → design_at bytes read ≡ Ok f
    → WorkedFrom s read f
unfolding design_at
answered_worked bytes read s f good e = of_sheet_lem s read f (rw good at e)
