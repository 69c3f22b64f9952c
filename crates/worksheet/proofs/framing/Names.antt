-- The greatest place at which no letter is torn: here, or the greatest before.
use mathlib.Core.Path.{◌≡◌, refl}
use mathlib.Core.Bool.{true, false}
use mathlib.Core.List.{List}
use Prim.Native.Nat.{ℕ, zero, suc, ◌-◌, ◌≤◌, ◌<◌}
use native.Mathlib.Omega.{arith}
use lib.ListN.{get_or}
use Rattle.worksheet.specs.Framing.{continues, whole_to}

pub whole_here : (name : List ℕ) (end : ℕ) → continues (get_or name end 0) ≡ false → whole_to name end ≡ end
unfolding whole_to
whole_here name zero e = refl
whole_here name (suc n) e = rw e

pub whole_before : (name : List ℕ) (end : ℕ) → 0 < end → continues (get_or name end 0) ≡ true → whole_to name end ≡ whole_to name (end - 1)
unfolding whole_to
whole_before name zero h e = absurd (omega arith)
whole_before name (suc n) h e = let f : suc n - 1 ≡ n = omega arith in rw (e, f)

pub whole_first : (name : List ℕ) (end : ℕ) → end ≤ 0 → end ≡ whole_to name end
unfolding whole_to
whole_first name zero h = refl
whole_first name (suc n) h = absurd (omega arith)
