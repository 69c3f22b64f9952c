-- The first place where a test holds.
use Rattle.std.specs.Prelude.{ℕ, zero, suc, Bool}
use Rattle.laws.specs.Choice.{ifᵇ◌then◌else◌}

-- one more than the first place from i on, among n, where the test holds; 0 where there is none
unfoldable pub first_from : (ℕ → Bool) → ℕ → ℕ → ℕ
first_from test i zero = 0
first_from test i (suc n) = ifᵇ test i then suc i else first_from test (suc i) n

-- the same from the beginning
abbrev pub first_of : (ℕ → Bool) → ℕ → ℕ
first_of test n = first_from test 0 n
