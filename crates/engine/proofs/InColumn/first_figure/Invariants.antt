-- `engine::InColumn::first_figure` meets its contract: the search from where the loop stands answers for all of it.
use mathlib.Core.Path.{◌≡◌}
use Prim.Native.Nat.{◌+◌, ◌-◌}
use Rattle.engine.specs.Plain.{deep, first_depth, first_figure}
use Rattle.engine.proofs.InColumn.first_figure.Given as goal

abbrev pub invariant-loop-figure : goal.invariant-loop-figure
invariant-loop-figure l =
    first_depth (deep l.self.stretch l.self.column) l.figure (l.s + 121 - l.figure) ≡ first_figure l.self.stretch l.self.column
