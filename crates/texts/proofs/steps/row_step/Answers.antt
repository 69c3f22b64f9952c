-- `texts::steps::row_step` meets its contract: a figure, or why there is none.
use Rattle.std.specs.Prelude.{Err}
use mathlib.Core.Path.{◌≡◌, refl, ◌∙◌}
use mathlib.Core.List.{List}
use Prim.Native.Nat.{ℕ}
use Rattle.texts.specs.Steps.{refused_by, told_of, row_step_by, row_step}
use Rattle.texts.proofs.steps.row_step.Goals as goal
use Rattle.typed.specs.declared.EntryFault.{EntryFault}
use Rattle.typed.specs.declared.EntryFault.TheVariants.{NoName, NoFigure, NoUnit}

refused : (fault : EntryFault) (figures : List ℕ) (k : ℕ) (line : List ℕ) → refused_by figures (told_of fault k line) k ≡ row_step_by (Err fault) figures k line
refused NoName figures k line = refl
refused NoFigure figures k line = refl
refused NoUnit figures k line = refl

pub returns-in-Ok : goal.returns-in-Ok
unfolding row_step
returns-in-Ok c = rw (← c.read_line.ensures, c.in-Ok.is, ← c.with_figure.ensures) c.accepted_in.ensures

pub returns-in-Err : goal.returns-in-Err
unfolding row_step
returns-in-Err c = rw (← c.read_line.ensures, c.in-Err.is) ((rw c.told_of.ensures at c.refused_by.ensures) ∙ refused _ _ _ _)
