-- A negative 32-bit number by -1 less it, which has no sign: what the machine needs of it, by cases of the sign.
use mathlib.Core.Path.{◌≡◌, refl, subst}
use mathlib.Core.Bool.{true, false}
use Prim.Native.Nat.{ℕ, suc, ◌+◌, ◌-◌, ◌<◌}
use native.Mathlib.Omega.{arith}
use borrow.Author.Tests.{le-ltb, ltb-true}
use lib.Dec.{T}
use lib.IntN.{ℤ, pos, negsuc, nat_abs, ◌-ℤ◌}
use lib.Signed.{lt_z, non_neg}
use mir.Syntax.{w32}
use mir.Val.{SFits, of_z}

-- -1 less a number
abbrev pub flipped : ℤ → ℤ
flipped z = negsuc 0 -ℤ z

flip_negative : (n : ℕ) → flipped (negsuc n) ≡ pos n
flip_negative n = let e : suc n - 1 ≡ n = omega arith in simp (le-ltb (suc n) 1 (omega arith), e)

-- what holds of it where the number is negative
pub record Flipped (z : ℤ) : Type 0 where
  pub fits : SFits w32 (flipped z)
  pub sign : T (non_neg (flipped z))
  pub size : nat_abs (flipped z) < 2147483648
  pub one_less : nat_abs (flipped z) + 1 ≡ nat_abs z
  pub bits : 4294967295 - nat_abs (flipped z) ≡ of_z w32 z

pub flip : (z : ℤ) → lt_z z (pos 0) ≡ true → SFits w32 z → Flipped z
flip (pos n) t f = let h = ltb-true n 0 t in absurd (omega arith)
flip (negsuc n) t f =
    let e = flip_negative n in
    record {
      fits = rw e (record { sfits = f.sfits });
      sign = rw e tt;
      size = rw e (omega (arith, f.sfits));
      one_less = rw e (omega arith);
      bits = rw e (omega arith);
    }

-- a number that is not negative has no sign, and is its own bits
pub no_sign : (z : ℤ) → lt_z z (pos 0) ≡ false → T (non_neg z)
no_sign (pos n) e = tt
no_sign (negsuc n) e = subst T e tt

pub own_bits : (z : ℤ) → lt_z z (pos 0) ≡ false → nat_abs z ≡ of_z w32 z
own_bits (pos n) e = refl
own_bits (negsuc n) e = absurd (no_sign (negsuc n) e)
