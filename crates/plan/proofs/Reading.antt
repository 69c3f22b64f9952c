-- A number's four bytes read back are the number: the bytes join to its word, and the word, by its sign, is the number.
use mathlib.Core.Path.{◌≡◌, ap, ◌∙◌}
use mathlib.Core.List.{List, [], ◌∷◌, ◌++◌}
use Prim.Native.Nat.{ℕ, zero, suc, ◌+◌, ◌-◌, ◌*◌, ◌/◌, ◌%◌, ◌<◌}
use native.Mathlib.Nat.{not-suc-le-zero, le_of_suc-le-suc}
use native.Mathlib.Omega.{arith}
use borrow.Author.Tests.{lt-ltb, le-ltb}
use lib.IntN.{ℤ, pos, negsuc}
use lib.ListN.{length, get_or}
use mir.Syntax.{w32}
use mir.Val.{SFits, of_z}
use Rattle.laws.specs.Each.{Each}
use Rattle.plan.specs.Words.{word_bytes, bytes_of_numbers, word_of, signed_of, number_at}

-- a word under 2 ^ 32 comes back from its bytes
word_back : (word : ℕ) → word < 4294967296 → word_of (word_bytes word) ≡ word
word_back word h =
    let two : word / 65536 ≡ word / 256 / 256 = omega arith in
    let three : word / 16777216 ≡ word / 65536 / 256 = omega arith in
    let low : word / 256 % 256 * 256 + word % 256 + word / 65536 * 65536 ≡ word = omega (arith, two) in
    let middle : word / 65536 % 256 + word / 16777216 * 256 ≡ word / 65536 = omega (arith, three) in
    let top : word / 16777216 % 256 ≡ word / 16777216 = omega arith in
    omega (arith, low, middle, top)

-- the word of a number that fits is under 2 ^ 32, and comes back with its sign
word_fits : (z : ℤ) → SFits w32 z → of_z w32 z < 4294967296
word_fits (pos n) f = omega (arith, f.sfits)
word_fits (negsuc n) f = omega (arith, f.sfits)

sign_back : (z : ℤ) → SFits w32 z → signed_of (of_z w32 z) ≡ z
sign_back (pos n) f = rw (lt-ltb n 2147483648 (omega (arith, f.sfits)))
sign_back (negsuc n) f =
    let word = 4294967296 - suc n in
    let below : word < 4294967296 = omega (arith, f.sfits) in
    let left : 4294967296 - suc word ≡ n = omega (arith, f.sfits) in
    rw (le-ltb word 2147483648 (omega (arith, f.sfits))) (simp (lt-ltb word 4294967296 below, left))

read_back : (z : ℤ) → SFits w32 z → signed_of (word_of (word_bytes (of_z w32 z))) ≡ z
read_back z f = ap signed_of (word_back (of_z w32 z) (word_fits z f)) ∙ sign_back z f

-- number i stands in the four bytes from 4 * i on
pub number_back : (numbers : List ℤ) (rest : List ℕ) (i : ℕ) → i < length numbers → Each (SFits w32) numbers
    → number_at (bytes_of_numbers numbers ++ rest) i ≡ get_or numbers i (pos 0)
number_back [] rest i h f = absurd (not-suc-le-zero h)
number_back (z ∷ numbers) rest zero h f = read_back z f.0
number_back (z ∷ numbers) rest (suc i) h f =
    let four : 4 * suc i ≡ suc (suc (suc (suc (4 * i)))) = omega arith in
    rw four (number_back numbers rest i (le_of_suc-le-suc h) f.1)
