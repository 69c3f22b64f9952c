-- `engine::first_cut` meets its contract: the search from where the loop stands answers for all of it.
use mathlib.Core.Path.{◌≡◌}
use Prim.Native.Nat.{◌-◌}
use Rattle.engine.specs.Plain.{meets, first_depth, first_cut}
use Rattle.engine.proofs.first_cut.Given as goal

abbrev pub invariant-loop-d : goal.invariant-loop-d
invariant-loop-d l = first_depth (meets l.stretch) l.d (3001 - l.d) ≡ first_cut l.stretch
