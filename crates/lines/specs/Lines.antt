-- The lines that the printing program writes, and what a buffer holds once one is written.
use Rattle.std.specs.Prelude.{ℕ, ◌+◌, ◌*◌, ◌≡◌, List, [], ◌∷◌, ◌++◌, map, ℤ, length, take, drop}
use Rattle.laws.specs.Choice.{ifᵇ◌then◌else◌, ◌≤ᵇ◌}
use Rattle.engine.specs.Numbers.{plain_count}
use Rattle.design.specs.Numbers.{number_count}
use Rattle.lines.specs.Decimals.{count_text, number_text}
use Rattle.lines.specs.declared.Form.{Form}
use Rattle.lines.specs.declared.Form.TheVariants.{Alone, Both}

-- the bytes of a space, a newline, `L` and `R`
abbrev pub space : ℕ
space = 32

abbrev pub newline : ℕ
newline = 10

abbrev pub letter_l : ℕ
letter_l = 76

abbrev pub letter_r : ℕ
letter_r = 82

-- words, each behind one space
unfoldable pub spaced : List (List ℕ) → List ℕ
spaced [] = []
spaced (word ∷ words) = space ∷ (word ++ spaced words)

-- a line: its first word, the others with one space between, a newline after the last
abbrev pub line_text : List ℕ → List (List ℕ) → List ℕ
line_text first others = (first ++ spaced others) ++ newline ∷ []

-- the first line: L, added, missing, refused
unfoldable pub levels_line : ℕ → ℕ → ℕ → List ℕ
levels_line added missing refused = line_text (letter_l ∷ []) (map count_text (added ∷ missing ∷ refused ∷ []))

-- the line of a sheet by the worksheet alone: its index and its numbers
unfoldable pub sheet_line : ℕ → List ℤ → List ℕ
sheet_line index numbers = line_text (count_text index) (map number_text numbers)

-- the line of a sheet by both engines: its index, its numbers, and the plain engine's
unfoldable pub both_line : ℕ → List ℤ → List ℕ → List ℕ
both_line index numbers plain = line_text (count_text index) (map number_text numbers ++ map count_text plain)

-- the line in a form
abbrev pub line_in : Form → ℕ → List ℤ → List ℕ → List ℕ
line_in Alone index numbers plain = sheet_line index numbers
line_in Both index numbers plain = both_line index numbers plain

-- what stands in it behind the numbers
abbrev pub plain_text : Form → List ℕ → List ℕ
plain_text Alone plain = []
plain_text Both plain = spaced (map count_text plain)

-- the last line: R, sheets, answered, route class
unfoldable pub route_line : ℕ → ℕ → ℕ → List ℕ
route_line sheets answered class = line_text (letter_r ∷ []) (map count_text (sheets ∷ answered ∷ class ∷ []))

-- the last line by both engines: on how many sheets they agreed behind it
unfoldable pub both_route_line : ℕ → ℕ → ℕ → ℕ → List ℕ
both_route_line sheets answered class agreed = line_text (letter_r ∷ []) (map count_text (sheets ∷ answered ∷ class ∷ agreed ∷ []))

-- the line in a form
abbrev pub route_line_in : Form → ℕ → ℕ → ℕ → ℕ → List ℕ
route_line_in Alone sheets answered class agreed = route_line sheets answered class
route_line_in Both sheets answered class agreed = both_route_line sheets answered class agreed

-- the bytes that a line is given: none has more than 12 for each number of a sheet, 21 for each of the plain engine's, and 21 for its index and the newline
abbrev pub line_bytes : ℕ
line_bytes = 12 * number_count + 21 * plain_count + 21

-- a buffer with a text at a place
unfoldable pub with_text : ℕ → List ℕ → List ℕ → List ℕ
with_text at text buffer = take at buffer ++ (text ++ drop (at + length text) buffer)

-- the place after a text at a place, where so much room is asked for: the same place where there is less
unfoldable pub place_within : ℕ → List ℕ → ℕ → List ℕ → ℕ
place_within room text at buffer = ifᵇ at + room ≤ᵇ length buffer then at + length text else at

-- the buffer after a text at a place: as it was where there is less room
unfoldable pub buffer_within : ℕ → List ℕ → ℕ → List ℕ → List ℕ
buffer_within room text at buffer = ifᵇ at + room ≤ᵇ length buffer then with_text at text buffer else buffer

-- the same of a line
abbrev pub place_after : List ℕ → ℕ → List ℕ → ℕ
place_after = place_within line_bytes

abbrev pub buffer_after : List ℕ → ℕ → List ℕ → List ℕ
buffer_after = buffer_within line_bytes

-- the bytes that a count is given: none of 64 bits has more digits
abbrev pub count_bytes : ℕ
count_bytes = 20

-- the bytes that a signed number is given: those of a count, and one for its sign
abbrev pub number_bytes : ℕ
number_bytes = 21

-- a text was put at a place of a buffer, which is now as later; end is the place after it
pub record Put (buffer : List ℕ) (at : ℕ) (text : List ℕ) (later : List ℕ) (end : ℕ) : Type 0 where
  pub after : end ≡ at + length text
  pub holds : later ≡ with_text at text buffer
