-- A number that is none of the first n is n or more: what is left where a match names each of them.
use mathlib.Core.Path.{◌≡◌}
use Prim.Native.Nat.{ℕ, zero, suc, ◌≤◌}
use native.Mathlib.Omega.{arith}

-- k is none of the first n numbers
abbrev pub Missed : ℕ → ℕ → Type 0
Missed zero k = Unit
Missed (suc n) k = Missed n k × (k ≡ n → ⊥)

pub missed_past : (n k : ℕ) → Missed n k → n ≤ k
missed_past zero k m = omega arith
missed_past (suc n) k m = let l : n ≤ k = missed_past n k m.0 in let d : k ≡ n → ⊥ = m.1 in omega arith
