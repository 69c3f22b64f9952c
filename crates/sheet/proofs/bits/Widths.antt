-- What the fields, the spare bits and the bytes take: 224 bits in all, and no field more than 20.
use mathlib.Core.Path.{◌≡◌, refl, sym, ◌∙◌}
use Prim.Native.Nat.{ℕ, zero, suc, ◌+◌, ◌*◌, ◌^◌, ◌<◌, ◌≤◌}
use native.Mathlib.Omega.{arith}
use lib.Dec.{leb, ltb, leb→le, ltb→lt}
use Rattle.laws.proofs.Every.{every_at}
use Rattle.sheet.specs.Bits.{starts}
use Rattle.sheet.specs.Fields.{groups, fields, field_at, width, greatest, count, spare_bits}
use Rattle.sheet.specs.Packing.{eight, size}
use Rattle.sheet.proofs.bits.Groups.{starts_le}

-- one test over the whole table, and the rule at each field
pub width_le : (k : ℕ) → k < groups → width k ≤ 20
unfolding width field_at fields
width_le k h = leb→le (width k) 20 (every_at groups (λ (j : ℕ). leb (width j) 20) tt k h)

pub greatest_fits : (k : ℕ) → k < count → greatest k < 2 ^ width k
unfolding greatest width field_at fields
greatest_fits k h = ltb→lt (greatest k) (2 ^ width k) (every_at count (λ (j : ℕ). ltb (greatest j) (2 ^ width j)) tt k h)

pub starts_eight : (n : ℕ) → starts eight n ≡ 8 * n
unfolding starts
starts_eight zero = refl
starts_eight (suc n) = omega (arith, starts_eight n)

pub starts_width : starts width groups ≡ 224
unfolding starts width field_at fields
starts_width = refl

pub starts_fields : starts width count + spare_bits ≡ 224
unfolding starts width field_at fields
starts_fields = refl

-- the spare bits
pub width_spare : width count ≡ spare_bits
unfolding width
width_spare = refl

pub ends_width : (k : ℕ) → k < groups → starts width k + width k ≤ 224
unfolding starts
ends_width k h = omega (arith, starts_le width (suc k) groups h, starts_width)

pub same_size : starts width groups ≡ starts eight size
same_size = starts_width ∙ sym (starts_eight size)
