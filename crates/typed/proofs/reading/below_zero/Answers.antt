-- `typed::reading::below_zero` meets its contract: a difference that stops at 0.
use mathlib.Core.Bool.{Bool, true, false}
use mathlib.Core.Path.{◌≡◌, refl, ◌∙◌}
use Prim.Native.Nat.{ℕ, ◌-◌}
use native.Mathlib.Omega.{arith}
use borrow.Author.Tests.{ltb-false}
use lib.Dec.{ltb}
use Rattle.laws.specs.Choice.{ifᵇ◌then◌else◌}
use Rattle.typed.specs.Lines.{level_zero}
use Rattle.typed.specs.Reading.{below_zero}
use Rattle.typed.proofs.reading.below_zero.Goals as goal

below_is : (depth : ℕ) → level_zero - depth ≡ below_zero depth
unfolding below_zero
below_is depth = go (ltb depth level_zero) refl
  where
    go : (t : Bool) → ltb depth level_zero ≡ t → level_zero - depth ≡ (ifᵇ t then level_zero - depth else 0)
    go true e = refl
    go false e = let past = ltb-false depth level_zero e in omega arith

pub returns : goal.returns
returns c = c.saturating_sub.ensures ∙ below_is c.args.depth
