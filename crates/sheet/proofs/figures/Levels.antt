-- A level and its two figures.
use mathlib.Core.Path.{◌≡◌, refl, sym}
use Prim.Native.Nat.{ℕ, zero, suc, ◌≤◌}
use native.Mathlib.Omega.{arith}
use Rattle.sheet.specs.Sheets.{level_source_of, source_figure, level_figure}
use Rattle.sheet.specs.declared.LevelSource.{LevelSource}
use Rattle.sheet.specs.declared.LevelSource.TheVariants.{FromRecord, Given}

-- a level comes back from its figures
pub level_back : (l : LevelSource) → level_source_of (source_figure l) (level_figure l) ≡ l
unfolding level_source_of
level_back FromRecord = refl
level_back (Given level) = refl

-- and the figures from their level, where a level off the record has none
pub record FiguresBack (source level : ℕ) : Type 0 where
  pub source_back : source_figure (level_source_of source level) ≡ source
  pub level_figure_back : level_figure (level_source_of source level) ≡ level

pub figures_back : (source level : ℕ) → source ≤ 1 → (source ≡ 0 → level ≡ 0) → FiguresBack source level
unfolding level_source_of
figures_back zero level h none = record { source_back = refl; level_figure_back = sym (none refl) }
figures_back (suc zero) level h none = record { source_back = refl; level_figure_back = refl }
figures_back (suc (suc n)) level h none = absurd (omega arith)
