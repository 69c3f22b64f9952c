-- The bits of a sheet's bytes in a row are those of its fields and spare bits in a row.
use mathlib.Core.Path.{◌≡◌, refl, ap₂, sym, ◌∙◌}
use mathlib.Core.List.{List, ◌++◌}
use Prim.Native.Nat.{ℕ, zero, suc, ◌+◌, ◌*◌, ◌/◌, ◌%◌, ◌^◌, ◌<◌}
use native.Mathlib.Nat.{add_comm, zero-add, suc-add, pow-suc, mul_assoc, mul_comm, mul-add-div_right, mul-add-mod_self_right}
use native.Mathlib.Omega.{arith}
use lib.Pow.{pow_pos, high, shr-shr}
use Rattle.sheet.specs.Bits.{starts, joined, bits_of, strung}
use Rattle.sheet.specs.Fields.{groups, width, nth}
use Rattle.sheet.specs.Packing.{size, eight, bits_of_bytes, bits_of_groups, number_of, groups_of, Narrow, Bytes}
use Rattle.sheet.proofs.bits.RoundTrip.{regrouped, groups_narrow}
use Rattle.sheet.proofs.bits.Widths.{same_size}

-- the low j bits of a number do not look at what stands before them
low_bits : (j z y : ℕ) → bits_of j (z * 2 ^ j + y) ≡ bits_of j y
unfolding bits_of
low_bits zero z y = refl
low_bits (suc j) z y =
    let e : z * 2 ^ suc j + y ≡ z * 2 * 2 ^ j + y = rw (pow-suc 2 j, mul_assoc z 2 (2 ^ j), mul_comm 2 (2 ^ j)) in
    let d : (z * 2 * 2 ^ j + y) / 2 ^ j % 2 ≡ y / 2 ^ j % 2 =
    rw (mul-add-div_right (pow_pos j) (z * 2) y) (mul-add-mod_self_right z 2 (y / 2 ^ j)) in
    rw (e, d, low_bits j (z * 2) y)

-- the bits of x followed by w bits of y
bits_then : (a w x y : ℕ) → y < 2 ^ w → bits_of (a + w) (x * 2 ^ w + y) ≡ bits_of a x ++ bits_of w y
unfolding bits_of
bits_then zero w x y h = rw zero-add (low_bits w x y)
bits_then (suc a) w x y h =
    let d : (x * 2 ^ w + y) / 2 ^ (a + w) ≡ x / 2 ^ a = rw (add_comm a w, ← shr-shr, high x w h) in
    rw (suc-add, d, bits_then a w x y h)

-- the bits of the joined number are the groups' bits, one after another
pub strung_joined : (w v : ℕ → ℕ) (n : ℕ) → ((k : ℕ) → k < n → v k < 2 ^ w k) → bits_of (starts w n) (joined w v n) ≡ strung w v n
unfolding starts joined strung bits_of
strung_joined w v zero b = refl
strung_joined w v (suc n) b =
    rw (bits_then (starts w n) (w n) (joined w v n) (v n) (b n (omega arith)), strung_joined w v n (λ k h. b k (omega arith)))

-- fields packed most significant bit first
pub packed : (bytes : List ℕ) → Bytes bytes → bits_of_bytes bytes ≡ bits_of_groups (groups_of bytes)
unfolding Narrow groups_of number_of
packed bytes small =
    sym (strung_joined eight (nth bytes) size small)
    ∙ ap₂ bits_of (sym same_size) (sym (regrouped eight width (nth bytes) size groups (sym same_size) small))
    ∙ strung_joined width (nth (groups_of bytes)) groups (groups_narrow bytes)
