-- Two depths compared, three numbers each; and a sheet that came to its depth or did not.
use Rattle.std.specs.Prelude.{Result, nat_eq}
use mathlib.Core.Path.{◌≡◌, refl}
use mathlib.Core.Bool.{Bool, true, false, ◌&&◌}
use native.Mathlib.Omega.{arith}
use mathlib.Core.List.{List, [], ◌∷◌}
use Prim.Native.Nat.{ℕ}
use lib.Dec.{eqb}
use lib.ListN.{length}
use lib.Pointwise.{pointwise}
use Rattle.laws.specs.Choice.{ifᵇ◌then◌else◌}
use Rattle.sheet.specs.Sheets.{read_of}
use Rattle.both.specs.Both.{came_to, same_numbers, not_come, by_reading, beside}
use Rattle.design.specs.declared.Reason.{Reason}
use Rattle.datum.specs.declared.Level.{Level}
use Rattle.design.specs.declared.Figures.{Figures}
use Rattle.gauge.specs.declared.LevelFault.{LevelFault}

-- the arrays' equality, of three numbers each
pub compared : (u v : List ℕ) → length u ≡ 3 → length v ≡ 3 → pointwise nat_eq u v ≡ same_numbers u v
unfolding same_numbers
compared [] v l m = absurd (omega (arith, l))
compared (a ∷ []) v l m = absurd (omega (arith, l))
compared (a ∷ b ∷ []) v l m = absurd (omega (arith, l))
compared (a ∷ b ∷ c ∷ x ∷ u) v l m = absurd (omega (arith, l))
compared (a ∷ b ∷ c ∷ []) [] l m = absurd (omega (arith, m))
compared (a ∷ b ∷ c ∷ []) (d ∷ []) l m = absurd (omega (arith, m))
compared (a ∷ b ∷ c ∷ []) (d ∷ e ∷ []) l m = absurd (omega (arith, m))
compared (a ∷ b ∷ c ∷ []) (d ∷ e ∷ f ∷ x ∷ v) l m = absurd (omega (arith, m))
compared (a ∷ b ∷ c ∷ []) (d ∷ e ∷ f ∷ []) l m = go (eqb a d) (eqb b e) (eqb c f)
  where
    go : (p q r : Bool) → (p && (q && (r && true))) ≡ (ifᵇ p then (ifᵇ q then r else false) else false)
    go true true true = refl
    go true true false = refl
    go true false r = refl
    go false q r = refl

module _ (bytes : List ℕ) (read : Result Level LevelFault) (answer : Result Figures Reason) where
  pub refused_before : came_to answer ≡ false → not_come answer ≡ beside bytes read answer
  refused_before e = rw e

  pub came_there : came_to answer ≡ true → by_reading answer (read_of bytes) read ≡ beside bytes read answer
  came_there e = rw e
