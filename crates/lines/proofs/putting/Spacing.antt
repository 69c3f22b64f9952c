-- Words put one after another, each behind one space.
use mathlib.Core.Path.{◌≡◌, refl}
use mathlib.Core.List.{List, [], ◌∷◌, ◌++◌, map, map-append, append_assoc, append-nil}
use Prim.Native.Nat.{ℕ, ◌+◌, ◌≤◌, ◌<◌}
use native.Mathlib.Numerals.{add-one}
use native.Mathlib.Omega.{arith}
use lib.ListN.{length, take, drop, get_or, set, length-drop, take-append-drop}
use lib.Seq.{take-suc, take_all}
use Rattle.lines.specs.Lines.{space, spaced, Put}
use Rattle.lines.proofs.putting.Placing.{put_none, put_on, then_byte}

pub spaced_append : (first second : List (List ℕ)) → spaced (first ++ second) ≡ spaced first ++ spaced second
unfolding spaced
spaced_append [] second = refl
spaced_append (word ∷ first) second = rw (spaced_append first second, append_assoc)

-- words behind others
pub spaced_on : (first : List ℕ) (words more : List (List ℕ)) → (first ++ spaced words) ++ spaced more ≡ first ++ spaced (words ++ more)
spaced_on first words more = rw (spaced_append, append_assoc)

-- the first i of the words stand at a place, each behind one space
abbrev pub Words : {A : Type 0} → (A → List ℕ) → List A → List ℕ → ℕ → ℕ → List ℕ → ℕ → Type 0
Words text words buffer at i later end = Put buffer at (spaced (map text (take i words))) later end

module _ {A : Type 0} (text : A → List ℕ) (words : List A) where
  pub no_words : {buffer : List ℕ} {at : ℕ} → Words text words buffer at 0 buffer at
  unfolding spaced
  no_words = put_none

  one_more : (i : ℕ) (d : A) → i < length words
      → spaced (map text (take (i + 1) words)) ≡ (spaced (map text (take i words)) ++ space ∷ []) ++ text (get_or words i d)
  unfolding spaced
  one_more i d h = rw (add-one, take-suc words i d h, map-append, spaced_append, append-nil, append_assoc)

  pub next_word : {buffer middle later : List ℕ} {at end last : ℕ} (i : ℕ) (d : A) → Words text words buffer at i middle end
      → Put (set middle end space) (end + 1) (text (get_or words i d)) later last → i < length words → end < length buffer
      → Words text words buffer at (i + 1) later last
  next_word i d p q h fits = rw (one_more i d h) (put_on (then_byte space p fits) q (omega arith))

  -- all of them in two runs: the first k, and those past them
  pub two_runs : {buffer middle later : List ℕ} {at end last : ℕ} (k m : ℕ) → length words ≤ k + m → Words text words buffer at k middle end
      → Words text (drop k words) middle end m later last → end ≤ length buffer → Put buffer at (spaced (map text words)) later last
  two_runs k m all p q fits =
      let rest : take m (drop k words) ≡ drop k words = take_all m (drop k words) (omega (arith, length-drop k words)) in
      let whole : spaced (map text (take k words)) ++ spaced (map text (drop k words)) ≡ spaced (map text words) =
      rw (← spaced_append, ← map-append, take-append-drop) in
      rw whole at (put_on p (rw rest at q) fits)
