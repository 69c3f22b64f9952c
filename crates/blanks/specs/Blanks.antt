-- A text whose blanks are filled with figures. A blank is `%` and one byte for its width; the next figure fills it.
use Rattle.std.specs.Prelude.{ℕ, ◌-◌, ◌*◌, ◌/◌, ◌^◌, ◌<◌, List, [], ◌∷◌, ◌++◌, length, take, drop, replicate}
use Rattle.std.specs.Int.{w32}
use Rattle.std.proofs.Common.{SFits}
use Rattle.laws.specs.Choice.{ifᵇ◌then◌else◌, ◌<ᵇ◌, ◌=ᵇ◌}
use Rattle.lines.specs.Decimals.{count_text, number_text}
use Rattle.lines.specs.Lines.{space}
use Rattle.typed.specs.Rows.{bytes_of}
use Rattle.blanks.specs.declared.Figure.{Figure}
use Rattle.blanks.specs.declared.Figure.TheVariants.{Count, Signed, Letter, Word, Nothing}

-- the byte that begins a blank, `%`
abbrev pub blank_byte : ℕ
blank_byte = 37

-- the bytes of a word in a table of words, and the most columns of a blank
abbrev pub word_bytes : ℕ
word_bytes = 24

-- the bytes that a text is given, 12 for each of its own: a blank has two, and at most 24 columns
abbrev pub filled_bytes : List ℕ → ℕ
filled_bytes text = 12 * length text

-- the columns that a byte asks for: `0` to `9` are 0 to 9, `A` to `O` are 10 to 24, any other is 0
unfoldable pub width_of : ℕ → ℕ
width_of byte =
    ifᵇ byte <ᵇ 48
    then 0
    else (ifᵇ byte <ᵇ 58 then byte - 48 else (ifᵇ byte <ᵇ 65 then 0 else (ifᵇ byte <ᵇ 80 then byte - 55 else 0)))

-- a byte in front of what is left of the word behind it: a space goes where nothing is left
abbrev pub trimmed_by : ℕ → List ℕ → List ℕ
trimmed_by byte [] = ifᵇ byte =ᵇ space then [] else byte ∷ []
trimmed_by byte (next ∷ rest) = byte ∷ next ∷ rest

-- a word without the spaces at its end
unfoldable pub trimmed : List ℕ → List ℕ
trimmed [] = []
trimmed (byte ∷ word) = trimmed_by byte (trimmed word)

-- the word after the first i of a table; nothing where the table has no more
unfoldable pub word_at : List ℕ → ℕ → List ℕ
word_at words i = ifᵇ i <ᵇ length words / word_bytes then trimmed (take word_bytes (drop (word_bytes * i) words)) else []

-- the text of a figure; a word is one of the table
unfoldable pub figure_text : List ℕ → Figure → List ℕ
figure_text words (Count n) = count_text n
figure_text words (Signed z) = number_text z
figure_text words (Letter byte) = byte ∷ []
figure_text words (Word i) = word_at words i
figure_text words Nothing = bytes_of "none"

-- a figure is one of its type: a count of 64 bits, a number of 32
abbrev pub OfItsType : Figure → Type 0
OfItsType (Count n) = n < 2 ^ 64
OfItsType (Signed z) = SFits w32 z
OfItsType (Letter byte) = Unit {0}
OfItsType (Word i) = Unit {0}
OfItsType Nothing = Unit {0}

-- the spaces that a text lacks of so many columns
abbrev pub lacking : ℕ → List ℕ → List ℕ
lacking width text = replicate (width - length text) space

-- a text at the left of so many columns, or at the right
abbrev pub at_left : ℕ → List ℕ → List ℕ
at_left width text = text ++ lacking width text

abbrev pub at_right : ℕ → List ℕ → List ℕ
at_right width text = lacking width text ++ text

-- a figure in so many columns, or in as many as it has: a word from the left, everything else from the right
unfoldable pub blank_text : List ℕ → ℕ → Figure → List ℕ
blank_text words width (Word i) = at_left width (figure_text words (Word i))
blank_text words width (Count n) = at_right width (figure_text words (Count n))
blank_text words width (Signed z) = at_right width (figure_text words (Signed z))
blank_text words width (Letter byte) = at_right width (figure_text words (Letter byte))
blank_text words width Nothing = at_right width (figure_text words Nothing)

-- what fills a blank: the next figure in the columns that the byte behind `%` asks for; nothing where there is no byte or no figure
unfoldable pub next_text : List ℕ → List ℕ → List Figure → List ℕ
next_text words [] figures = []
next_text words (width ∷ text) [] = []
next_text words (width ∷ text) (figure ∷ figures) = blank_text words (width_of width) figure

-- a text with its blanks filled; every other byte stands as it is, and a `%` at the very end goes
unfoldable pub filled : List ℕ → List ℕ → List Figure → List ℕ
filled words [] figures = []
filled words (byte ∷ []) figures = ifᵇ byte =ᵇ blank_byte then [] else byte ∷ []
filled words (byte ∷ next ∷ text) figures =
    ifᵇ byte =ᵇ blank_byte
    then next_text words (next ∷ text) figures ++ filled words text (drop 1 figures)
    else byte ∷ filled words (next ∷ text) figures
