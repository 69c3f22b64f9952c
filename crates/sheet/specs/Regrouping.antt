-- What the code holds while it takes bytes apart into groups; no promise speaks of it.
use Rattle.std.specs.Prelude.{◌≡◌, List, ℕ, ◌+◌, ◌*◌, ◌^◌, ◌<◌, length}
use Rattle.laws.specs.Choice.{ifᵇ◌then◌else◌, ◌<ᵇ◌}
use Rattle.sheet.specs.Bits.{starts, joined}
use Rattle.sheet.specs.Fields.{count, width, nth}
use Rattle.sheet.specs.Packing.{eight}
use Rattle.sheet.specs.declared.bits.Between.{Between}

-- a number x is a, followed by n bits that hold b
pub record Tail (x a b n : ℕ) : Type 0 where
  pub sum : x ≡ a * 2 ^ n + b
  pub low : b < 2 ^ n

-- p groups are taken in, q are given out, and b holds the n bits between
pub record Mid (wi vi wo vo : ℕ → ℕ) (p q b n : ℕ) : Type 0 where
  pub tail : Tail (joined wi vi p) (joined wo vo q) b n
  pub place : starts wi p ≡ starts wo q + n
  pub below : (k : ℕ) → k < q → vo k < 2 ^ wo k

-- word k of the bytes: the number of its four bytes
unfoldable pub word_at : List ℕ → ℕ → ℕ
word_at bytes k = nth bytes (4 * k) * 2 ^ 24 + nth bytes (4 * k + 1) * 2 ^ 16 + nth bytes (4 * k + 2) * 2 ^ 8 + nth bytes (4 * k + 3)

-- with the next word where fewer than w bits are held
unfoldable pub filled_of : List ℕ → Between → ℕ → Between
filled_of bytes between w =
    ifᵇ between.held.n <ᵇ w
    then record {
      held = record { bits = between.held.bits * 2 ^ 32 + word_at bytes between.words; n = between.held.n + 32 };
      words = between.words + 1;
    }
    else between

-- the first i fields of the bytes are split off
pub record SplitTo (bytes found : List ℕ) (between : Between) (i : ℕ) : Type 0 where
  pub mid : Mid eight (nth bytes) width (nth found) (4 * between.words) i between.held.bits between.held.n
  pub few : between.held.n < 32
  pub whole : length found ≡ count
