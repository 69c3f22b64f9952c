-- The spare bits: they are what stands past the fields' bits, and one is set exactly when their group is not 0.
use mathlib.Core.Path.{◌≡◌, refl, ap, sym, ◌∙◌}
use mathlib.Core.Bool.{Bool, true, false}
use mathlib.Core.List.{List, ◌∷◌}
use mathlib.Core.Logic.{◌↔◌}
use Prim.Native.Nat.{ℕ, zero, suc, ◌+◌, ◌/◌, ◌%◌, ◌^◌, ◌<◌}
use native.Mathlib.Nat.{div-lt_iff_lt-mul, zero-div, one-mul}
use native.Mathlib.Omega.{arith}
use borrow.Author.Tests.{eqb-true, eqb-false}
use lib.Dec.{eqb}
use lib.ListN.{length, length-append}
use lib.Pow.{pow_pos, shr_lt}
use lib.Seq.{get_or-append-add}
use Rattle.sheet.specs.Bits.{bits_of, strung, starts}
use Rattle.sheet.specs.Fields.{count, width, nth}
use Rattle.sheet.specs.Packing.{bits_of_bytes, groups_of, Narrow, Bytes, SpareSet}
use Rattle.sheet.proofs.bits.Packed.{packed}
use Rattle.sheet.proofs.bits.RoundTrip.{groups_narrow}

-- no bit of 0 is set
no_bit : (w j : ℕ) → nth (bits_of w 0) j ≡ 0
unfolding bits_of
no_bit zero j = refl
no_bit (suc w) zero = rw (zero-div (2 ^ w)) refl
no_bit (suc w) (suc j) = no_bit w j

-- some bit of any other number is
some_bit : (w x : ℕ) → x < 2 ^ w → (x ≡ 0 → ⊥) → (j : ℕ) × (nth (bits_of w x) j ≡ 1)
unfolding bits_of
some_bit zero x h n = absurd (omega arith)
some_bit (suc w) x h n = go (eqb (x / 2 ^ w) 0) refl (λ l. some_bit w x l n)
  where
    top : x / 2 ^ w < 2
    top = shr_lt 1 w (let e : 1 + w ≡ suc w = omega arith in rw e h)

    go : (b : Bool) → eqb (x / 2 ^ w) 0 ≡ b → (x < 2 ^ w → (j : ℕ) × (nth (bits_of w x) j ≡ 1))
        → (j : ℕ) × (nth (x / 2 ^ w % 2 ∷ bits_of w x) j ≡ 1)
    go true e lower =
        let l : x / 2 ^ w < 1 = omega (arith, eqb-true (x / 2 ^ w) 0 e) in
        let r = lower (rw one-mul at ((div-lt_iff_lt-mul (pow_pos w)).0 l)) in
        (suc r.0, r.1)
    go false e lower =
        let o : x / 2 ^ w ≡ 1 = omega (arith, eqb-false (x / 2 ^ w) 0 e, top) in
        (0, rw o refl)

bits_length : (w x : ℕ) → length (bits_of w x) ≡ w
unfolding bits_of
bits_length zero x = refl
bits_length (suc w) x = ap suc (bits_length w x)

strung_length : (w v : ℕ → ℕ) (n : ℕ) → length (strung w v n) ≡ starts w n
unfolding strung starts
strung_length w v zero = refl
strung_length w v (suc n) = rw (length-append, strung_length w v n, bits_length (w n) (v n))

-- past the bits of n groups stand those of the next
next_group : (w v : ℕ → ℕ) (n j : ℕ) → nth (strung w v (suc n)) (starts w n + j) ≡ nth (bits_of (w n) (v n)) j
unfolding strung
next_group w v n j = rw (← strung_length w v n) (get_or-append-add (strung w v n) (bits_of (w n) (v n)) j 0)

module _ (bytes : List ℕ) (small : Bytes bytes) where
  past_fields : (j : ℕ) → nth (bits_of_bytes bytes) (starts width count + j) ≡ nth (bits_of (width count) (nth (groups_of bytes) count)) j
  past_fields j = rw (packed bytes small) (next_group width (nth (groups_of bytes)) count j)

  -- a spare bit is set exactly when their group is not 0
  pub spare_set : SpareSet bytes ↔ (nth (groups_of bytes) count ≡ 0 → ⊥)
  unfolding Narrow
  spare_set = (
    (λ s z. let e : nth (bits_of (width count) 0) s.place ≡ 1 = rw z at (sym (past_fields s.place) ∙ s.set) in
        omega (arith, no_bit (width count) s.place)),
    (λ n. let b = some_bit (width count) (nth (groups_of bytes) count) (groups_narrow bytes count (omega arith)) n in
        record { place = b.0; set = past_fields b.0 ∙ b.1 }),
  )
