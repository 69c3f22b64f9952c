-- Nothing is left to show where 0 would be 1: the way out of cases that two constructors keep apart.
use mathlib.Core.Path.{◌≡◌}
use Prim.Native.Nat.{ℕ}
use native.Mathlib.Omega.{arith}

pub never : {X : Type 0} → ◌≡◌ {A = ℕ} 0 1 → X
never e = absurd (omega arith)
