-- The lines of the table: one that is not outside lies from the first to the last, and what a row and a point are then.
use mathlib.Core.Path.{◌≡◌, refl}
use mathlib.Core.Bool.{Bool, true, false, ◌||◌, false≢true}
use mathlib.Core.List.{List, []}
use Prim.Native.Nat.{ℕ, ◌+◌, ◌-◌, ◌*◌, ◌≤◌}
use borrow.Author.Tests.{ltb-false}
use lib.ListN.{get_or}
use Rattle.laws.specs.Choice.{◌<ᵇ◌}
use Rattle.speed.specs.Table.{full_table, outside, full_row, entry, point_of}

-- the line is from the first to the last
pub record Inside (line first last : ℕ) : Type 0 where
  pub from : first ≤ line
  pub to : line ≤ last

pub inside : (line first last : ℕ) → outside line first last ≡ false → Inside line first last
inside line first last e = go (line <ᵇ first) (last <ᵇ line) refl refl e
  where
    go : (a b : Bool) → (line <ᵇ first) ≡ a → (last <ᵇ line) ≡ b → (a || b) ≡ false → Inside line first last
    go false false p q e = record { from = ltb-false line first p; to = ltb-false last line q }
    go false true p q e = absurd (false≢true cc)
    go true b p q e = absurd (false≢true cc)

-- the rows by their lines
module _ (width slope : ℕ) where
  pub in_table : outside width 1 5 ≡ false → outside slope 1 3 ≡ false → get_or full_table (3 * (width - 1) + (slope - 1)) [] ≡ full_row width slope
  unfolding full_row
  in_table d e = rw (d, e)

-- the points of a row
module _ (row : List ℕ) (metres : ℕ) where
  pub at_depth : outside metres 4 16 ≡ false → entry (get_or row (metres - 4) 0) ≡ point_of row metres
  unfolding point_of
  at_depth e = rw e
