-- There is one least number, and it grows with its rule.
use mathlib.Core.Path.{◌≡◌}
use Prim.Native.Nat.{ℕ, ◌+◌, ◌-◌, ◌≤◌}
use native.Mathlib.Omega.{arith}
use Rattle.laws.specs.Extremes.{Least}

pub least_only : (P : ℕ → Type 0) (m n : ℕ) → Least P m → Least P n → m ≡ n
least_only P m n a b = omega (arith, a.least n b.holds, b.least m a.holds)

-- where whatever meets the harder rule meets the easier k lower, the least number grows by k or more
pub least_grows : (P Q : ℕ → Type 0) (k m n : ℕ) → ((d : ℕ) → Q d → (k ≤ d) × P (d - k)) → Least P m → Least Q n → m + k ≤ n
least_grows P Q k m n lower a b =
    let at = lower n b.holds in
    omega (arith, at.0, a.least (n - k) at.1)
