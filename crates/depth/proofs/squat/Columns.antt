-- The columns in their order, and the column of a cut: it never falls as the cut grows.
use mathlib.Core.Path.{◌≡◌, refl}
use mathlib.Core.Bool.{Bool, true, false}
use Prim.Native.Nat.{ℕ, ◌-◌, ◌*◌, ◌≤◌, ◌<◌}
use native.Mathlib.Omega.{arith}
use borrow.Author.Tests.{leb-true, leb-false, le-leb, lt-leb}
use lib.Dec.{leb}
use Rattle.laws.specs.Choice.{ifᵇ◌then◌else◌}
use Rattle.lanes.specs.declared.Lanes.{Lanes}
use Rattle.lanes.specs.declared.Lanes.TheVariants.{One, Two}
use Rattle.depth.specs.declared.Column.{Column}
use Rattle.depth.specs.declared.Column.TheVariants.{A, B, C}
use Rattle.depth.specs.Squat.{column_number, squat_reading}
use Rattle.depth.specs.Depth.{column_of}

pub column_most : (c : Column) → column_number c ≤ 2
column_most A = omega arith
column_most B = omega arith
column_most C = omega arith

pub reading_most : (l : Lanes) → squat_reading l ≤ 1
reading_most One = omega arith
reading_most Two = omega arith

pub two_most : (l : Lanes) → squat_reading l ≤ squat_reading Two
two_most One = omega arith
two_most Two = omega arith

-- a column has its number alone
pub same_column : (a b : Column) → column_number a ≡ column_number b → a ≡ b
same_column A A e = refl
same_column A B e = absurd (omega arith)
same_column A C e = absurd (omega arith)
same_column B A e = absurd (omega arith)
same_column B B e = refl
same_column B C e = absurd (omega arith)
same_column C A e = absurd (omega arith)
same_column C B e = absurd (omega arith)
same_column C C e = refl

-- the three columns of a cut
module _ (natural d : ℕ) where
  pub column_a : 10 * (d - natural) ≤ 5 * d → A ≡ column_of natural d
  unfolding column_of
  column_a h = simp (le-leb _ _ h)

  pub column_b : 5 * d < 10 * (d - natural) → 10 * (d - natural) ≤ 8 * d → B ≡ column_of natural d
  unfolding column_of
  column_b h k = simp (lt-leb _ _ h, le-leb _ _ k)

  pub column_c : 5 * d < 10 * (d - natural) → 8 * d < 10 * (d - natural) → C ≡ column_of natural d
  unfolding column_of
  column_c h k = simp (lt-leb _ _ h, lt-leb _ _ k)

pub column_up : (natural d e : ℕ) → d ≤ e → column_number (column_of natural d) ≤ column_number (column_of natural e)
unfolding column_of
column_up natural d e h =
    go (leb (10 * (d - natural)) (5 * d)) (leb (10 * (d - natural)) (8 * d)) (leb (10 * (e - natural)) (5 * e))
    (leb (10 * (e - natural)) (8 * e)) refl refl refl refl
  where
    go : (a b a' b' : Bool) → leb (10 * (d - natural)) (5 * d) ≡ a → leb (10 * (d - natural)) (8 * d) ≡ b
        → leb (10 * (e - natural)) (5 * e) ≡ a' → leb (10 * (e - natural)) (8 * e) ≡ b'
        → column_number (ifᵇ a then A else (ifᵇ b then B else C)) ≤ column_number (ifᵇ a' then A else (ifᵇ b' then B else C))
    go true b a' b' p q p' q' = omega arith
    go false b true b' p q p' q' = absurd (omega (arith, leb-true, leb-false))
    go false true false true p q p' q' = omega arith
    go false true false false p q p' q' = omega arith
    go false false false true p q p' q' = absurd (omega (arith, leb-true, leb-false))
    go false false false false p q p' q' = omega arith
