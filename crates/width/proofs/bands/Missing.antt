-- An entry is missing exactly past the last band of sheltered water, whatever the tenths of the bands are.
use Rattle.std.specs.Prelude.{Option, Some, None}
use mathlib.Core.Path.{◌≡◌, refl}
use mathlib.Core.Bool.{Bool, true, false}
use Prim.Native.Nat.{ℕ, ◌<◌}
use native.Mathlib.Omega.{arith}
use borrow.Author.Tests.{ltb-true, leb-true, leb-false}
use lib.Dec.{leb, ltb}
use Rattle.laws.specs.Choice.{ifᵇ◌then◌else◌}
use Rattle.datum.specs.declared.CrossCurrent.{CrossCurrent}
use Rattle.width.specs.Bands.{cross_entry, wave_entry}
use Rattle.width.specs.declared.Water.{Water}
use Rattle.width.specs.declared.Water.TheVariants.{Open, Sheltered}
use Rattle.width.specs.declared.SpeedBand.{SpeedBand}

-- a figure past the last band of sheltered water
abbrev pub Past : Water → ℕ → ℕ → Type 0
Past Open last figure = ⊥
Past Sheltered last figure = last < figure

-- an entry is there, or missing for a reason
pub data Reads (Missing : Type 0) : Option ℕ → Type 0 where
  there : (n : ℕ) → ¬ Missing → Reads Missing (Some n)
  missing : Missing → Reads Missing None

pub cross_reads : (water : Water) (band : SpeedBand) (cross : CrossCurrent) → Reads (Past water 15 cross.0) (cross_entry water band cross)
unfolding cross_entry
cross_reads Open band cross = go (ltb cross.0 2) (leb cross.0 5) (leb cross.0 15) _ _ _ _
  where
    go : (t u v : Bool) (a b c d : ℕ)
        → Reads ⊥ (ifᵇ t then Some a else (ifᵇ u then Some b else (ifᵇ v then Some c else Some d)))
    go true u v a b c d = there _ (λ x. x)
    go false true v a b c d = there _ (λ x. x)
    go false false true a b c d = there _ (λ x. x)
    go false false false a b c d = there _ (λ x. x)
cross_reads Sheltered band cross = go (ltb cross.0 2) (leb cross.0 5) (leb cross.0 15) _ _ _ refl refl refl
  where
    go : (t u v : Bool) (a b c : ℕ) → ltb cross.0 2 ≡ t → leb cross.0 5 ≡ u → leb cross.0 15 ≡ v
        → Reads (15 < cross.0) (ifᵇ t then Some a else (ifᵇ u then Some b else (ifᵇ v then Some c else None)))
    go true u v a b c p q r = there _ (λ over. omega (arith, ltb-true cross.0 2 p))
    go false true v a b c p q r = there _ (λ over. omega (arith, leb-true cross.0 5 q))
    go false false true a b c p q r = there _ (λ over. omega (arith, leb-true cross.0 15 r))
    go false false false a b c p q r = missing (leb-false cross.0 15 r)

pub wave_reads : (water : Water) (band : SpeedBand) (wave : ℕ) → Reads (Past water 100 wave) (wave_entry water band wave)
unfolding wave_entry
wave_reads Open band wave = go (leb wave 100) (leb wave 300) _ _ _
  where
    go : (t u : Bool) (a b c : ℕ) → Reads ⊥ (ifᵇ t then Some a else (ifᵇ u then Some b else Some c))
    go true u a b c = there _ (λ x. x)
    go false true a b c = there _ (λ x. x)
    go false false a b c = there _ (λ x. x)
wave_reads Sheltered band wave = go (leb wave 100) (leb wave 300) _ refl
  where
    go : (t u : Bool) (a : ℕ) → leb wave 100 ≡ t → Reads (100 < wave) (ifᵇ t then Some a else (ifᵇ u then None else None))
    go true u a p = there _ (λ over. omega (arith, leb-true wave 100 p))
    go false true a p = missing (leb-false wave 100 p)
    go false false a p = missing (leb-false wave 100 p)
