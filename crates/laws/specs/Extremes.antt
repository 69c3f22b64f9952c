-- Least and greatest, as they are meant: no method of finding them.
use Rattle.std.specs.Prelude.{ℕ, ◌≤◌}

-- n is the least number of which P holds
pub record Least (P : ℕ → Type 0) (n : ℕ) : Type 0 where
  pub holds : P n
  pub least : (m : ℕ) → P m → n ≤ m

-- n is the greatest number of which P holds
pub record Greatest (P : ℕ → Type 0) (n : ℕ) : Type 0 where
  pub holds : P n
  pub greatest : (m : ℕ) → P m → m ≤ n
