-- Signed 32-bit numbers as bytes, most significant first, and read back from them.
use Rattle.std.specs.Prelude.{List, [], ◌∷◌, ◌++◌, ℕ, ◌+◌, ◌*◌, ◌/◌, ◌%◌, ℤ, pos, ◌-ℤ◌, get_or, take, drop}
use Rattle.std.specs.Int.{w32}
use Rattle.std.proofs.Common.{of_z}
use Rattle.laws.specs.Choice.{ifᵇ◌then◌else◌, ◌<ᵇ◌}

-- the four bytes of a word
abbrev pub word_bytes : ℕ → List ℕ
word_bytes word = word / 16777216 % 256 ∷ word / 65536 % 256 ∷ word / 256 % 256 ∷ word % 256 ∷ []

-- the bytes of numbers one after another, each in two's complement
abbrev pub bytes_of_numbers : List ℤ → List ℕ
bytes_of_numbers [] = []
bytes_of_numbers (number ∷ numbers) = word_bytes (of_z w32 number) ++ bytes_of_numbers numbers

-- the word of four bytes, most significant first
abbrev pub word_of : List ℕ → ℕ
word_of bytes = get_or bytes 0 0 * 16777216 + get_or bytes 1 0 * 65536 + get_or bytes 2 0 * 256 + get_or bytes 3 0

-- a word of 32 bits as a signed number: from 2,147,483,648 on it is negative
abbrev pub signed_of : ℕ → ℤ
signed_of word = ifᵇ word <ᵇ 2147483648 then pos word else (pos word -ℤ pos 4294967296)

-- number i of a place, as a caller reads it
abbrev pub number_at : List ℕ → ℕ → ℤ
number_at place i = signed_of (word_of (take 4 (drop (4 * i) place)))
