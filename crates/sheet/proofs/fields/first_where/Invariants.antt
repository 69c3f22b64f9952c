-- `sheet::fields::first_where` meets its contract: the search from where the loop stands answers for the whole run.
use mathlib.Core.Path.{◌≡◌}
use mathlib.Core.Bool.{Bool}
use Prim.Native.Nat.{ℕ, ◌-◌, ◌<◌}
use Rattle.laws.specs.First.{first_from}
use Rattle.sheet.proofs.fields.first_where.Given as goal

abbrev pub invariant-loop-i : goal.invariant-loop-i
invariant-loop-i g l =
    (holds : ℕ → Bool) → ((i : ℕ) (b : Bool) → i < l.to → goal.F-post g l.test i b → b ≡ holds i)
    → first_from holds l.i (l.to - l.i) ≡ first_from holds l.from (l.to - l.from)
