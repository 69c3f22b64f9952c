-- A figure without its sign: 0 for a negative one, else its size.
use mathlib.Core.Path.{◌≡◌, refl}
use mathlib.Core.Bool.{true, false}
use native.Mathlib.Omega.{arith}
use borrow.Author.Tests.{ltb-true}
use lib.IntN.{ℤ, pos, negsuc, nat_abs}
use lib.Signed.{lt_z}
use Rattle.laws.proofs.Never.{never}
use Rattle.worksheet.specs.Filling.{unsigned_of}

pub below_zero : (z : ℤ) → lt_z z (pos 0) ≡ true → 0 ≡ unsigned_of z
below_zero (pos n) t = let h = ltb-true n 0 t in absurd (omega arith)
below_zero (negsuc n) t = refl

pub its_size : (z : ℤ) → lt_z z (pos 0) ≡ false → nat_abs z ≡ unsigned_of z
its_size (pos n) t = refl
its_size (negsuc n) t = never cc
