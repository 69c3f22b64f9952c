-- Numbers written one after another: after i of them stand their bytes, then what stood there before.
use Prim.Native.Nat.{ℕ, ◌+◌, ◌*◌, ◌<◌, ◌≤◌}
use native.Mathlib.Omega.{arith}
use native.Mathlib.Numerals.{add-one}
use mathlib.Core.Path.{◌≡◌, refl, ap, ◌∙◌}
use mathlib.Core.List.{List, [], ◌∷◌, ◌++◌}
use Rattle.std.proofs.Common.{append_assoc}
use lib.IntN.{ℤ, pos}
use lib.ListN.{length, take, drop, get_or}
use lib.Seq.{take_at, drop-append-add, drop-drop, take-suc, length-take-le}
use mir.Syntax.{w32}
use mir.Val.{of_z}
use Rattle.plan.specs.Words.{word_bytes, bytes_of_numbers}

bytes_append : (a b : List ℤ) → bytes_of_numbers (a ++ b) ≡ bytes_of_numbers a ++ bytes_of_numbers b
bytes_append [] b = refl
bytes_append (z ∷ a) b = ap (λ (l : List ℕ). word_bytes (of_z w32 z) ++ l) (bytes_append a b)

pub bytes_length : (numbers : List ℤ) → length (bytes_of_numbers numbers) ≡ 4 * length numbers
bytes_length [] = refl
bytes_length (z ∷ numbers) = omega (arith, bytes_length numbers)

pub one_more : (numbers : List ℤ) (before place : List ℕ) (i : ℕ) → i < length numbers → 4 * length numbers ≤ length before
    → length place ≡ length before → place ≡ bytes_of_numbers (take i numbers) ++ drop (4 * i) before
    → take (4 * i) place ++ (word_bytes (of_z w32 (get_or numbers i (pos 0))) ++ drop (4 * i + 4) place) ≡ bytes_of_numbers (take (i + 1) numbers) ++ drop (4 * (i + 1)) before
one_more numbers before place i h large same e =
    let z = get_or numbers i (pos 0) in
    let done = bytes_of_numbers (take i numbers) in
    let n : length done ≡ 4 * i = bytes_length (take i numbers) ∙ ap (λ (k : ℕ). 4 * k) (length-take-le i numbers (omega arith)) in
    let front : take (4 * i) place ≡ done = rw e (take_at done (drop (4 * i) before) (4 * i) n) in
    let back : drop (4 * i + 4) place ≡ drop (4 * i + 4) before =
    rw (e, ← n) (drop-append-add done (drop (length done) before) 4 ∙ drop-drop 4 (length done) before) in
    let k : 4 * (i + 1) ≡ 4 * i + 4 = omega arith in
    rw (front, back, k, add-one i, take-suc numbers i (pos 0) h, bytes_append (take i numbers) (z ∷ []), append_assoc)
