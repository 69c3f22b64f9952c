-- What a filled text promises. Each proof stands where it is cited.
use mathlib.Core.Path.{◌≡◌}
use mathlib.Core.List.{List}
use Prim.Native.Nat.{ℕ, ◌+◌, ◌≤◌}
use lib.ListN.{length}
use Rattle.laws.specs.Each.{Each}
use Rattle.laws.proofs.Unique.{one_answer}
use Rattle.lines.specs.Lines.{place_within, buffer_within, Put}
use Rattle.lines.proofs.putting.Fitting.{put_within}
use Rattle.typed.specs.Rows.{bytes_of}
use Rattle.blanks.specs.Blanks.{blank_byte, filled_bytes, OfItsType, blank_text, filled}
use Rattle.blanks.specs.declared.Figure.{Figure}
use Rattle.blanks.proofs.meaning.Filling.{no_blank}
use Rattle.blanks.proofs.meaning.Sample.{sample_words, sample_figures, sample_filled}
use Rattle.blanks.proofs.meaning.Sizes.{wide_enough, filled_short}

-- Every kind of figure in its columns; a blank past the last figure is empty, and so is `%` at the end.
pub starred_filled : filled sample_words (bytes_of "%5|%5|%3|%C|%4|%0 m%0.%") sample_figures ≡ bytes_of " 1000|   -7|  A|deposited   |none|12 m."
starred_filled = sample_filled

-- A text without a blank stands as it is.
pub without_blanks : (words text : List ℕ) (figures : List Figure) → Each (λ (byte : ℕ). byte ≡ blank_byte → ⊥) text → filled words text figures ≡ text
without_blanks = no_blank

-- A blank is at least as wide as it asks for.
pub wide_as_asked : (words : List ℕ) (width : ℕ) (figure : Figure) → width ≤ length (blank_text words width figure)
wide_as_asked = wide_enough

-- A filled text has at most 12 bytes for each of the text's.
pub filled_fits : (words text : List ℕ) (figures : List Figure) → Each OfItsType figures → length (filled words text figures) ≤ filled_bytes text
filled_fits = filled_short

-- Where there is room for them, the filled text stands at the place, and the place after it is answered.
pub filled_put : (words text : List ℕ) (figures : List Figure) (at : ℕ) (buffer later : List ℕ) (end : ℕ) → at + filled_bytes text ≤ length buffer
    → end ≡ place_within (filled_bytes text) (filled words text figures) at buffer → later ≡ buffer_within (filled_bytes text) (filled words text figures) at buffer
    → Put buffer at (filled words text figures) later end
filled_put words text figures at buffer later end h e f = put_within (filled_bytes text) (filled words text figures) at buffer h (e, f)

-- One answered place and one later content of the buffer.
pub filled_place_unique : (words text : List ℕ) (figures : List Figure) (at : ℕ) (buffer : List ℕ) (r s : ℕ)
    → r ≡ place_within (filled_bytes text) (filled words text figures) at buffer → s ≡ place_within (filled_bytes text) (filled words text figures) at buffer → r ≡ s
filled_place_unique words text figures at buffer = one_answer

pub filled_buffer_unique : (words text : List ℕ) (figures : List Figure) (at : ℕ) (buffer now later : List ℕ)
    → now ≡ buffer_within (filled_bytes text) (filled words text figures) at buffer → later ≡ buffer_within (filled_bytes text) (filled words text figures) at buffer
    → now ≡ later
filled_buffer_unique words text figures at buffer = one_answer
