-- A figure in its columns: a word from the left, everything else from the right, and at least as many columns as are asked for.
use mathlib.Core.Path.{◌≡◌, refl, ap, sym}
use mathlib.Core.List.{List, []}
use Prim.Native.Nat.{ℕ, ◌+◌, ◌-◌, ◌*◌, ◌/◌, ◌≤◌, ◌<◌}
use native.Mathlib.Omega.{arith}
use borrow.Author.Tests.{lt-ltb, le-ltb}
use lib.ListN.{length, take, drop, replicate, length-append, length-replicate, length-take}
use lib.Seq.{length-take-le}
use Rattle.lines.specs.Lines.{space, Put}
use Rattle.lines.proofs.decimals.Digits.{below_or}
use Rattle.lines.proofs.putting.Placing.{head_stands, put_on}
use Rattle.blanks.specs.Blanks.{trimmed, word_bytes, word_at, figure_text, lacking, at_left, at_right, blank_text}
use Rattle.blanks.specs.declared.Figure.{Figure}
use Rattle.blanks.specs.declared.Figure.TheVariants.{Count, Signed, Letter, Word, Nothing}
use Rattle.blanks.proofs.meaning.Trimming.{trimmed_short}

-- how many columns a text comes to
module _ (width : ℕ) (text : List ℕ) where
  pub left_columns : length (at_left width text) ≡ length text + (width - length text)
  left_columns = rw (length-append text (lacking width text), length-replicate (width - length text) space)

  pub right_columns : length (at_right width text) ≡ (width - length text) + length text
  right_columns = rw (length-append (lacking width text) text, length-replicate (width - length text) space)

-- a text put with the spaces that it lacks
module _ {buffer middle later : List ℕ} {at between end : ℕ} (width : ℕ) where
  pub left_put : {text : List ℕ} → Put buffer at text middle between → Put middle between (replicate (width - (between - at)) space) later end → between ≤ length buffer
      → Put buffer at (at_left width text) later end
  left_put {text} p q fits =
      let e : between - at ≡ length text = omega (arith, p.after) in
      put_on p (rw e at q) fits

  pub right_put : (bytes : ℕ) (columns : List ℕ) → bytes ≤ length columns → Put buffer at (replicate (width - bytes) space) middle between
      → Put middle between (take bytes columns) later end → between ≤ length buffer → Put buffer at (at_right width (take bytes columns)) later end
  right_put bytes columns h p q fits =
      let e : width - bytes ≡ width - length (take bytes columns) = ap (λ (n : ℕ). width - n) (sym (length-take-le bytes columns h)) in
      put_on (rw e at p) q fits

-- what was put at the beginning stands there
pub put_first : {buffer text later : List ℕ} {end : ℕ} → Put buffer 0 text later end → take end later ≡ text
put_first {buffer} {text} p = rw (p.after, p.holds) (head_stands buffer 0 text (omega arith))

module _ (words : List ℕ) where
  pub at_the_right : (width : ℕ) (figure : Figure) → ((i : ℕ) → figure ≡ Word i → ⊥) → blank_text words width figure ≡ at_right width (figure_text words figure)
  unfolding blank_text
  at_the_right width (Count n) other = refl
  at_the_right width (Signed z) other = refl
  at_the_right width (Letter byte) other = refl
  at_the_right width (Word i) other = absurd (other i refl)
  at_the_right width Nothing other = refl

  -- a word past the table, and one that it has
  module _ (i : ℕ) where
    pub no_word : length words / word_bytes ≤ i → word_at words i ≡ []
    unfolding word_at
    no_word h = rw (le-ltb _ _ h)

    pub some_word : i < length words / word_bytes → word_at words i ≡ trimmed (take word_bytes (drop (word_bytes * i) words))
    unfolding word_at
    some_word h = rw (lt-ltb _ _ h)

    pub word_part : i < length words / word_bytes
        → trimmed (take (word_bytes * i + word_bytes - word_bytes * i) (drop (word_bytes * i) words)) ≡ word_at words i
    word_part h =
        let e : word_bytes * i + word_bytes - word_bytes * i ≡ word_bytes = omega arith in
        rw e (sym (some_word h))

    pub word_short : length (word_at words i) ≤ word_bytes
    word_short =
        let word = take word_bytes (drop (word_bytes * i) words) in
        below_or i (length words / word_bytes)
        (λ h. rw (some_word h) (omega (arith, trimmed_short word, length-take word_bytes (drop (word_bytes * i) words))))
        (λ h. rw (no_word h) (omega arith))
