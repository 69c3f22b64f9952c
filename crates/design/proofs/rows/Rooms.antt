-- What rooms tell of the rows of a design: a level of its own passes them, one off the record tells what its table does; the speed tells of the
-- section of the sheet's figures, which are the only ones.
use Rattle.std.specs.Prelude.{Result, Ok}
use mathlib.Core.Path.{◌≡◌, refl, subst}
use mathlib.Core.List.{List, [], ◌∷◌}
use Prim.Native.Nat.{ℕ}
use Rattle.datum.specs.declared.Level.{Level}
use Rattle.laws.specs.Rows.{Row, ◌when◌}
use Rattle.laws.proofs.Never.{never}
use Rattle.laws.proofs.Rows.{Told, stop, past, Call}
use Rattle.sheet.specs.declared.Sheet.{Sheet}
use Rattle.sheet.specs.declared.LevelSource.{LevelSource}
use Rattle.sheet.specs.declared.LevelSource.TheVariants.{FromRecord, Given}
use Rattle.gauge.specs.Designing.{design_level, level_number, level_rows}
use Rattle.gauge.proofs.Refusals.{NotFound, level_call, level_told as table_told}
use Rattle.speed.specs.Refusals.{PointLacking, TooFast, speed_rows}
use Rattle.speed.specs.declared.Section.{Section}
use Rattle.speed.proofs.Refusals.{checks}
use Rattle.design.specs.Design.{level_for}
use Rattle.design.specs.Answers.{FiguresAre, section_of}
use Rattle.design.specs.Refusals.{level_from, off_record, OfSection, SpeedLacking, SpeedOver}
use Rattle.design.specs.declared.Figures.{Figures}
use Rattle.design.proofs.answers.Figures.{figures_only}
use Rattle.speed.specs.declared.SpeedFault.{SpeedFault}
use Rattle.gauge.specs.declared.LevelFault.{LevelFault}

-- 4, 5, 6: the level of a source, over a table
abbrev pub levels_from : LevelSource → List ℕ → Call (Result Level LevelFault)
levels_from source table = record { number = level_number; answered = λ r. r ≡ Ok (level_from source table); refused = NotFound }

off_told : (table : List ℕ) (rows : List Row) (read : Result Level LevelFault) → Told (level_call table) rows read
    → Told (levels_from FromRecord table) (off_record FromRecord rows) read
off_told table [] read told = told
off_told table (row ∷ rows) read (stop fault stops) = stop (record { off = refl; fault = fault }) stops
off_told table (row ∷ rows) read (past none later) = past (λ o. none o.fault) (off_told table rows read later)

-- a given level passes whatever the record's rows are
given_told : (level : Level) (table : List ℕ) (rows : List Row) → Told (levels_from (Given level) table) (off_record (Given level) rows) (Ok level)
given_told level table [] = (refl, refl)
given_told level table (row ∷ rows) = past (λ o. let off = o.off in never cc) (given_told level table rows)

pub level_told : (source : LevelSource) (table : List ℕ)
    → Told (levels_from source table) (off_record source (level_rows table)) (level_for source (design_level table))
level_told (Given level) table = given_told level table (level_rows table)
level_told FromRecord table = off_told table (level_rows table) (design_level table) (table_told table)

-- 16, 17: the section of the sheet's figures
module _ (s : Sheet) (level : Level) (f : Figures) (are : FiguresAre s level f) where
  of_section : (Fault : Section → Type 0) → Fault (section_of s level f) → OfSection s level Fault
  of_section Fault fault = record { figures = f; are = are; fault = fault }

  only_section : (Fault : Section → Type 0) → OfSection s level Fault → Fault (section_of s level f)
  only_section Fault o = subst (λ (g : Figures). Fault (section_of s level g)) (figures_only s level o.figures f o.are are) o.fault

  abbrev Fast : Section → Type 0
  Fast q = TooFast q s.speed

  pub speed_told : (c : Result (Unit {0}) SpeedFault) → Told checks (speed_rows (section_of s level f) s.speed) c
      → Told checks ((16 when SpeedLacking s level) ∷ (17 when SpeedOver s level) ∷ []) c
  speed_told c (stop fault stops) = stop (of_section PointLacking fault) stops
  speed_told c (past known (stop fault stops)) = past (λ o. known (only_section PointLacking o)) (stop (of_section Fast fault) stops)
  speed_told c (past known (past slow allowed)) =
      past (λ o. known (only_section PointLacking o)) (past (λ o. slow (only_section Fast o)) allowed)
