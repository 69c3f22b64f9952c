-- What stands past the rows, and the values of a row's figure by the row's place.
use mathlib.Core.Path.{◌≡◌, sym}
use Prim.Native.Nat.{ℕ, ◌+◌, ◌<◌, ◌≤◌}
use mathlib.Core.List.{[]}
use native.Mathlib.Omega.{arith}
use borrow.Author.Tests.{lt-ltb, le-ltb, ne_eqb}
use lib.ListN.{get_or-eq_default}
use Rattle.sheet.specs.Fields.{range_of}
use Rattle.typed.specs.Rows.{row, rows, row_at, count, level_row, values_of}
use Rattle.typed.specs.declared.Kind.TheVariants.{Whole}

-- past the rows there is none
pub no_row : (i : ℕ) → count ≤ i → row "" Whole "" [] ≡ row_at i
unfolding row_at rows
no_row i h = sym (get_or-eq_default rows (row "" Whole "" []) h)

-- the values of a row before the level's, of the level's, of the one behind it, and past the rows
module _ (i : ℕ) where
  pub before_level : i < level_row → range_of i ≡ values_of i
  unfolding values_of
  before_level h = rw (lt-ltb i level_row h)

  pub at_level : i ≡ level_row → record { least = 0; greatest = 2001 } ≡ values_of i
  unfolding values_of
  at_level e = rw e

  pub behind_level : level_row < i → i < count → range_of (i + 1) ≡ values_of i
  unfolding values_of
  behind_level l h = rw (le-ltb i level_row (omega arith), ne_eqb i level_row (λ e. omega arith), lt-ltb i count h)

  pub past_rows : count ≤ i → record { least = 0; greatest = 0 } ≡ values_of i
  unfolding values_of
  past_rows h = rw (le-ltb i level_row (omega arith), ne_eqb i level_row (λ e. omega arith), le-ltb i count h)
