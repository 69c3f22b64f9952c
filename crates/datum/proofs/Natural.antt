-- A sum as a natural depth: 0 if negative, the deepest that is held where it is more, and itself between.
use mathlib.Core.Path.{◌≡◌, ap}
use Prim.Native.Nat.{ℕ, ◌+◌, ◌-◌, ◌≤◌, min}
use native.Mathlib.Omega.{arith}
use lib.IntN.{ℤ, pos, negsuc, nat_abs, ◌+ℤ◌, ◌-ℤ◌}
use Rattle.std.specs.Int.{int_max, int_min}
use Rattle.std.proofs.lemmas.Int.{ints, clamps}
use Rattle.datum.specs.Datum.{below, or_zero, deepest, natural_depth}

-- what a sum is held within
pub clamped : (z : ℤ) {r : ℤ} → r ≡ int_max (pos 0) (int_min z (pos deepest)) → nat_abs r ≡ min deepest (or_zero z)
clamped (pos n) e = grind (arith, ints, clamps)
clamped (negsuc n) e = grind (arith, ints, clamps)

-- a number less 500, as ℤ has it, or 0
less : (z : ℤ) (n : ℕ) → z ≡ pos n -ℤ pos 500 → or_zero z ≡ n - 500
less (pos k) n e = omega (arith, ints)
less (negsuc k) n e = omega (arith, ints)

-- of a bed of at most 3,000 cm under a level of the record: bed + level, or 0 if negative, with nothing lost
pub natural_of_bed : (bed held : ℕ) → bed ≤ 3000 → held ≤ 2000
    → natural_depth (record { 0 = pos bed }) (record { 0 = held }) ≡ record { 0 = bed + held - 500 }
unfolding natural_depth
natural_of_bed bed held hb hl = ap below (omega (arith, less (pos bed +ℤ (pos held -ℤ pos 500)) (bed + held) (omega (arith, ints))))
