-- The tests of the plain engine say what the definition does.
use mathlib.Core.Path.{◌≡◌, refl, sym, ◌∙◌}
use mathlib.Core.Bool.{Bool, true, false, true≢false}
use mathlib.Core.Logic.{◌↔◌}
use Prim.Native.Nat.{ℕ}
use borrow.Author.Tests.{leb-true, leb-false, le-leb, lt-leb, ltb-false, le-ltb}
use lib.Dec.{leb, ltb}
use Rattle.laws.proofs.Never.{never}
use Rattle.laws.specs.Choice.{ifᵇ◌then◌else◌}
use Rattle.depth.specs.declared.Stretch.{Stretch}
use Rattle.depth.specs.declared.Column.{Column}
use Rattle.depth.specs.Squat.{none}
use Rattle.depth.specs.Depth.{z3, z4, Deep, Serves, own_column}
use Rattle.engine.specs.Plain.{deep, serves, meets}

-- a test that holds exactly when P does fails where P does not
pub fails_not : {P : Type 0} (b : Bool) → (b ≡ true) ↔ P → b ≡ false → ¬ P
fails_not b exactly e p = true≢false (sym (exactly.1 p) ∙ e)

module _ (q : Stretch) (c : Column) (d : ℕ) where
  pub deep_exactly : (deep q c d ≡ true) ↔ Deep q c d
  unfolding deep
  deep_exactly = (leb-true _ _, le-leb _ _)

  serves_then : (a b : Bool) → leb none (z3 q c) ≡ a → ltb 120 (z4 q c d) ≡ b → (ifᵇ a then false else (ifᵇ b then false else deep q c d)) ≡ true → Serves q c d
  serves_then true b e f t = never cc
  serves_then false true e f t = never cc
  serves_then false false e f t = record { entry = leb-false _ _ e; silt = ltb-false _ _ f; deep = deep_exactly.0 t }

  pub serves_exactly : (serves q c d ≡ true) ↔ Serves q c d
  unfolding serves
  serves_exactly = (
    serves_then (leb none (z3 q c)) (ltb 120 (z4 q c d)) refl refl,
    (λ v. simp (lt-leb _ _ v.entry, le-ltb _ _ v.silt) (deep_exactly.1 v.deep)),
  )

pub meets_exactly : (q : Stretch) (d : ℕ) → (meets q d ≡ true) ↔ Serves q (own_column q d) d
unfolding meets
meets_exactly q d = serves_exactly q (own_column q d) d
