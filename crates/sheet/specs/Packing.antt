-- A sheet's bytes, and its fields and spare bits, as groups of the same bits (section 1.3).
use Rattle.std.specs.Prelude.{◌≡◌, ℕ, zero, suc, ◌+◌, ◌^◌, ◌<◌, List, [], ◌∷◌, take}
use Rattle.sheet.specs.Bits.{strung, starts, joined, cut}
use Rattle.sheet.specs.Fields.{count, groups, width, nth}

-- a sheet has 28 bytes, each a group of eight bits
abbrev pub size : ℕ
size = 28

abbrev pub eight : ℕ → ℕ
eight k = 8

-- the bits of a sheet's bytes in a row, and those of its fields and spare bits
abbrev pub bits_of_bytes : List ℕ → List ℕ
bits_of_bytes bytes = strung eight (nth bytes) size

abbrev pub bits_of_groups : List ℕ → List ℕ
bits_of_groups figures = strung width (nth figures) groups

-- a bit past those of the fields is set: a spare bit
pub record SpareSet (bytes : List ℕ) : Type 0 where
  pub place : ℕ
  pub set : nth (bits_of_bytes bytes) (starts width count + place) ≡ 1

-- the values of f at i and the n - 1 places after it
unfoldable pub listed : (ℕ → ℕ) → ℕ → ℕ → List ℕ
listed f i zero = []
listed f i (suc n) = f i ∷ listed f (suc i) n

-- the bytes as one number
unfoldable pub number_of : List ℕ → ℕ
number_of bytes = joined eight (nth bytes) size

-- the fields and the spare bits of 28 bytes
unfoldable pub groups_of : List ℕ → List ℕ
groups_of bytes = listed (cut width groups (number_of bytes)) 0 groups

-- the figures of the fields, without the spare bits
unfoldable pub figures_in : List ℕ → List ℕ
figures_in bytes = take count (groups_of bytes)

-- the 28 bytes in which fields and spare bits stand
unfoldable pub bytes_of : List ℕ → List ℕ
bytes_of figures = listed (cut eight size (joined width (nth figures) groups)) 0 size

-- each figure is within the bits of its group
unfoldable pub Narrow : List ℕ → Type 0
Narrow figures = (k : ℕ) → k < groups → nth figures k < 2 ^ width k

-- each of a string's numbers is a byte
abbrev pub Bytes : List ℕ → Type 0
Bytes bytes = (k : ℕ) → k < size → nth bytes k < 256
