-- The text of a signed number, by cases of the sign.
use mathlib.Core.Path.{◌≡◌, refl}
use mathlib.Core.Bool.{true, false}
use mathlib.Core.List.{List, ◌∷◌}
use Prim.Native.Nat.{ℕ, suc, ◌+◌, ◌≤◌, ◌<◌}
use native.Mathlib.Omega.{arith}
use borrow.Author.Tests.{ltb-true}
use lib.IntN.{ℤ, pos, negsuc, nat_abs}
use lib.Signed.{lt_z}
use mir.Syntax.{w32}
use mir.Val.{SFits, to_z, of_z}
use mir.Facts.{to_z-of_z}
use lib.ListN.{length, set}
use Rattle.laws.proofs.Never.{never}
use Rattle.lines.specs.Decimals.{minus, count_text, number_text}
use Rattle.lines.specs.Lines.{Put}
use Rattle.lines.proofs.putting.Counting.{count_at_most}
use Rattle.lines.proofs.putting.Placing.{byte_then}

-- a 32-bit number has at most ten digits, and a sign
pub number_at_most : (z : ℤ) → SFits w32 z → length (number_text z) ≤ 11
unfolding number_text
number_at_most (pos n) f = omega (arith, count_at_most 9 n (omega (arith, f.sfits)))
number_at_most (negsuc n) f = omega (arith, count_at_most 9 (suc n) (omega (arith, f.sfits)))

negative_text : (z : ℤ) → lt_z z (pos 0) ≡ true → number_text z ≡ minus ∷ count_text (nat_abs z)
unfolding number_text
negative_text (pos n) t = let h = ltb-true n 0 t in absurd (omega arith)
negative_text (negsuc n) t = refl

plain_text : (z : ℤ) → lt_z z (pos 0) ≡ false → number_text z ≡ count_text (nat_abs z)
unfolding number_text
plain_text (pos n) t = refl
plain_text (negsuc n) t = never cc

-- a number put with its sign and without one; the code has it as it is read off its bits, and m is that without its sign
module _ {z : ℤ} (fit : SFits w32 z) {buffer later : List ℕ} {at end m : ℕ} (size : m ≡ nat_abs (to_z w32 (of_z w32 z))) where
  pub put_negative : lt_z (to_z w32 (of_z w32 z)) (pos 0) ≡ true → Put (set buffer at minus) (at + 1) (count_text m) later end → at < length buffer
      → Put buffer at (number_text z) later end × (end ≤ at + 11)
  put_negative t p h =
      let q : Put buffer at (number_text z) later end = rw (negative_text z (rw (to_z-of_z fit) at t)) (byte_then (rw (size, to_z-of_z fit) at p) h) in
      (q, omega (arith, number_at_most z fit))

  pub put_plain : lt_z (to_z w32 (of_z w32 z)) (pos 0) ≡ false → Put buffer at (count_text m) later end
      → Put buffer at (number_text z) later end × (end ≤ at + 11)
  put_plain t p =
      let q : Put buffer at (number_text z) later end = rw (plain_text z (rw (to_z-of_z fit) at t)) (rw (size, to_z-of_z fit) at p) in
      (q, omega (arith, number_at_most z fit))
