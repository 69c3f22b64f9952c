-- `engine::reason_of` meets its contract: the reason from where the loop stands is that of the whole.
use mathlib.Core.Path.{◌≡◌}
use Prim.Native.Nat.{◌-◌}
use Rattle.engine.specs.declared.TheConstants.{COLUMNS}
use Rattle.engine.specs.Plain.{reason_from, reason_of}
use Rattle.engine.proofs.reason_of.Given as goal

abbrev pub invariant-loop : goal.invariant-loop
invariant-loop l = reason_from l.stretch (COLUMNS - l.counter) l.column ≡ reason_of l.stretch
