-- How long a filled text is: no blank has more than 24 columns, which is 12 for each of its two bytes.
use mathlib.Core.Path.{◌≡◌}
use mathlib.Core.List.{List, [], ◌∷◌}
use Prim.Native.Nat.{ℕ, ◌+◌, ◌-◌, ◌≤◌}
use native.Mathlib.Omega.{arith}
use borrow.Author.Tests.{lt-ltb, le-ltb, eq-eqb}
use lib.ListN.{length, drop, length-append}
use Rattle.laws.specs.Each.{Each}
use Rattle.lines.proofs.Promises.{count_fits, number_fits}
use Rattle.lines.proofs.decimals.Digits.{below_or}
use Rattle.blanks.specs.Blanks.{blank_byte, filled_bytes, width_of, figure_text, OfItsType, blank_text, next_text, filled}
use Rattle.blanks.specs.declared.Figure.{Figure}
use Rattle.blanks.specs.declared.Figure.TheVariants.{Count, Signed, Letter, Word, Nothing}
use Rattle.blanks.proofs.meaning.Trimming.{same_or}
use Rattle.blanks.proofs.meaning.Columns.{left_columns, right_columns, word_short}
use Rattle.blanks.proofs.meaning.Filling.{plain_byte}

width_short : (byte : ℕ) → width_of byte ≤ 24
unfolding width_of
width_short byte =
    below_or byte 48
    (λ a. rw (lt-ltb byte 48 a) (omega arith))
    (λ a.
    below_or byte 58
    (λ b. rw (le-ltb byte 48 a, lt-ltb byte 58 b) (omega arith))
    (λ b.
    below_or byte 65
    (λ d. rw (le-ltb byte 48 a, le-ltb byte 58 b, lt-ltb byte 65 d) (omega arith))
    (λ d.
    below_or byte 80
    (λ e. rw (le-ltb byte 48 a, le-ltb byte 58 b, le-ltb byte 65 d, lt-ltb byte 80 e) (omega arith))
    (λ e. rw (le-ltb byte 48 a, le-ltb byte 58 b, le-ltb byte 65 d, le-ltb byte 80 e) (omega arith)))))

rest_of_its_type : (figures : List Figure) → Each OfItsType figures → Each OfItsType (drop 1 figures)
rest_of_its_type [] each = tt
rest_of_its_type (figure ∷ figures) each = each.1

module _ (words : List ℕ) where
  figure_short : (figure : Figure) → OfItsType figure → length (figure_text words figure) ≤ 24
  unfolding figure_text
  figure_short (Count n) held = omega (arith, count_fits n held)
  figure_short (Signed z) held = omega (arith, number_fits z held)
  figure_short (Letter byte) held = omega arith
  figure_short (Word i) held = word_short words i
  figure_short Nothing held = omega arith

  -- a figure has its columns, or as many as it needs
  blank_columns : (width : ℕ) (figure : Figure) → length (blank_text words width figure) ≡ length (figure_text words figure) + (width - length (figure_text words figure))
  unfolding blank_text
  blank_columns width (Count n) = omega (arith, right_columns width (figure_text words (Count n)))
  blank_columns width (Signed z) = omega (arith, right_columns width (figure_text words (Signed z)))
  blank_columns width (Letter byte) = omega (arith, right_columns width (figure_text words (Letter byte)))
  blank_columns width (Word i) = left_columns width (figure_text words (Word i))
  blank_columns width Nothing = omega (arith, right_columns width (figure_text words Nothing))

  pub wide_enough : (width : ℕ) (figure : Figure) → width ≤ length (blank_text words width figure)
  wide_enough width figure = omega (arith, blank_columns width figure)

  next_short : (width : ℕ) (text : List ℕ) (figures : List Figure) → Each OfItsType figures → length (next_text words (width ∷ text) figures) ≤ 24
  unfolding next_text
  next_short width text [] each = omega arith
  next_short width text (figure ∷ figures) each =
      omega (arith, blank_columns (width_of width) figure, figure_short figure each.0, width_short width)

  pub filled_short : (text : List ℕ) (figures : List Figure) → Each OfItsType figures → length (filled words text figures) ≤ filled_bytes text
  unfolding filled next_text
  filled_short [] figures each = omega arith
  filled_short (byte ∷ []) figures each =
      same_or byte blank_byte (λ e. rw (eq-eqb byte blank_byte e) (omega arith)) (λ o. rw (plain_byte words byte [] figures o) (omega arith))
  filled_short (byte ∷ next ∷ text) figures each =
      same_or byte blank_byte
      (λ e.
      rw (eq-eqb byte blank_byte e, length-append (next_text words (next ∷ text) figures) (filled words text (drop 1 figures)))
      (omega (arith, next_short next text figures each, filled_short text (drop 1 figures) (rest_of_its_type figures each))))
      (λ o. rw (plain_byte words byte (next ∷ text) figures o) (omega (arith, filled_short (next ∷ text) figures each)))
