-- A text with a blank for each kind of figure, filled: by computation.
use mathlib.Core.Path.{◌≡◌, refl}
use mathlib.Core.List.{List, [], ◌∷◌}
use Prim.Native.Nat.{ℕ}
use lib.IntN.{negsuc}
use Rattle.lines.specs.Decimals.{digits_within, digits, count_text, number_text}
use Rattle.typed.specs.Rows.{bytes_of}
use Rattle.blanks.specs.Blanks.{width_of, trimmed, word_at, figure_text, blank_text, next_text, filled}
use Rattle.blanks.specs.declared.Figure.{Figure}
use Rattle.blanks.specs.declared.Figure.TheVariants.{Count, Signed, Letter, Word, Nothing}

abbrev pub sample_words : List ℕ
sample_words = bytes_of "mud                     deposited               "

abbrev pub sample_figures : List Figure
sample_figures = Count 1000 ∷ Signed (negsuc 6) ∷ Letter 65 ∷ Word 1 ∷ Nothing ∷ Count 12 ∷ []

pub sample_filled : filled sample_words (bytes_of "%5|%5|%3|%C|%4|%0 m%0.%") sample_figures ≡ bytes_of " 1000|   -7|  A|deposited   |none|12 m."
unfolding filled next_text blank_text figure_text word_at trimmed width_of number_text count_text digits digits_within
sample_filled = refl
