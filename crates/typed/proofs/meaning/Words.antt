-- A code is guessed from its word: the words of a row differ before either ends, and none is empty, so the first that stands is the right one.
use mathlib.Core.Path.{◌≡◌, refl}
use mathlib.Core.Bool.{Bool, true, false, ◌&&◌}
use mathlib.Core.List.{List, ◌++◌}
use Prim.Native.Nat.{ℕ, ◌+◌, ◌<◌}
use native.Mathlib.Omega.{arith}
use borrow.Author.Tests.{ne_eqb}
use lib.Dec.{T, ltb→lt}
use lib.ListN.{length}
use Rattle.laws.specs.Choice.{ifᵇ◌then◌else◌, ◌<ᵇ◌, ◌=ᵇ◌}
use Rattle.laws.specs.Every.{every}
use Rattle.laws.specs.First.{first_of}
use Rattle.laws.proofs.Every.{both_left, both_right, every_at}
use Rattle.laws.proofs.First.{first_is}
use Rattle.typed.specs.Lines.{word_text}
use Rattle.typed.specs.Reading.{stands, word_stands, word_guess}
use Rattle.typed.proofs.meaning.Fronts.{differs, differ_stands, front_stands}

module _ (words : List ℕ) where
  -- a code has a word, which differs from those before it
  abbrev pub tellable : ℕ → Bool
  tellable n = (0 <ᵇ length (word_text words n)) && every n (λ j. differs (word_text words j) (word_text words n))

  module _ (n : ℕ) (rest : List ℕ) (t : T (tellable n)) where
    own_word : word_stands words (word_text words n ++ rest) n ≡ true
    unfolding word_stands
    own_word =
        let some = ltb→lt 0 (length (word_text words n)) (both_left (0 <ᵇ length (word_text words n)) _ t) in
        rw (ne_eqb (length (word_text words n)) 0 (λ (e : length (word_text words n) ≡ 0). omega arith)) (front_stands (word_text words n) rest)

    other_word : (j : ℕ) → j < n → word_stands words (word_text words n ++ rest) j ≡ false
    unfolding word_stands
    other_word j l =
        let d = every_at n (λ k. differs (word_text words k) (word_text words n)) (both_right (0 <ᵇ length (word_text words n)) _ t) j l in
        go (length (word_text words j) =ᵇ 0) (differ_stands (word_text words j) (word_text words n) rest d)
      where
        go : (b : Bool) → stands (word_text words j) (word_text words n ++ rest) ≡ false
            → (ifᵇ b then false else stands (word_text words j) (word_text words n ++ rest)) ≡ false
        go true e = refl
        go false e = e

    pub word_back : n < 6 → word_guess words (word_text words n ++ rest) ≡ n
    unfolding word_guess
    word_back h =
        let bytes = word_text words n ++ rest in
        let first : first_of (word_stands words bytes) 6 ≡ n + 1 =
        first_is (word_stands words bytes) 6 n (record { within = h; here = own_word; none_before = other_word }) in
        rw first (omega arith)
