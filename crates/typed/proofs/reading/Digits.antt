-- The number that digits mean, one byte on.
use mathlib.Core.Path.{◌≡◌}
use mathlib.Core.Bool.{Bool, true, false}
use mathlib.Core.List.{List}
use Prim.Native.Nat.{ℕ, ◌+◌, ◌≤◌, ◌<◌}
use native.Mathlib.Numerals.{add-one}
use borrow.Author.Tests.{lt-ltb, le-ltb, leb-true}
use lib.Dec.{ltb}
use lib.ListN.{length, drop, get_or, drop_of_length-le}
use lib.Seq.{drop-cons}
use Rattle.laws.proofs.Never.{never}
use Rattle.laws.specs.Choice.{ifᵇ◌then◌else◌, ◌≤ᵇ◌}
use Rattle.typed.specs.Reading.{cap, in_number, digit_on, digits_read}

module _ (value at : ℕ) (bytes : List ℕ) where
  pub digits_end : length bytes ≤ at → digits_read value (drop at bytes) ≡ value
  unfolding digits_read
  digits_end h = rw (drop_of_length-le bytes h)

  module _ (some : at < length bytes) where
    pub digits_stop : in_number (get_or bytes at 0) ≡ false → digits_read value (drop at bytes) ≡ value
    unfolding digits_read
    digits_stop e = rw (drop-cons bytes at 0 some, e)

    pub digits_over : in_number (get_or bytes at 0) ≡ true → cap ≤ value → digits_read value (drop at bytes) ≡ 0
    unfolding digits_read
    digits_over e h = rw (drop-cons bytes at 0 some, e, le-ltb value cap h)

    pub digits_on : in_number (get_or bytes at 0) ≡ true → value < cap
        → digits_read value (drop at bytes) ≡ digits_read (digit_on value (get_or bytes at 0)) (drop (at + 1) bytes)
    unfolding digits_read
    digits_on e h = rw (drop-cons bytes at 0 some, e, lt-ltb value cap h, add-one)

-- a byte of a number is no greater than the digit 9
pub at_most_nine : (byte : ℕ) → in_number byte ≡ true → byte ≤ 57
unfolding in_number
at_most_nine byte e = leb-true byte 57 (go (ltb byte 46) (byte ≤ᵇ 57) e)
  where
    go : (small holds : Bool) → (ifᵇ small then false else holds) ≡ true → holds ≡ true
    go true holds e = never (cc)
    go false holds e = e
