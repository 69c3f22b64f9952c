-- The lines of a text (section 14.1).
use Rattle.std.specs.Prelude.{ℕ, ◌+◌, Bool, true, false, List, [], ◌∷◌, length}
use Rattle.laws.specs.Choice.{ifᵇ◌then◌else◌, ◌<ᵇ◌, ◌=ᵇ◌}
use Rattle.typed.specs.Rows.{bytes_of}
use Rattle.typed.specs.Reading.{stands}

-- the bytes of a newline, a carriage return, a tab, a space and `#`
abbrev pub newline : ℕ
newline = 10

abbrev pub return : ℕ
return = 13

abbrev pub tab : ℕ
tab = 9

abbrev pub space : ℕ
space = 32

abbrev pub hash : ℕ
hash = 35

-- the first line of a text: what stands before its first newline
unfoldable pub line_of : List ℕ → List ℕ
line_of [] = []
line_of (b ∷ text) = ifᵇ b =ᵇ newline then [] else b ∷ line_of text

-- a byte in front of the first of some lines
abbrev pub in_front : ℕ → List (List ℕ) → List (List ℕ)
in_front b [] = (b ∷ []) ∷ []
in_front b (line ∷ lines) = (b ∷ line) ∷ lines

-- all lines, in their order
unfoldable pub lines_of : List ℕ → List (List ℕ)
lines_of [] = []
lines_of (b ∷ text) = ifᵇ b =ᵇ newline then [] ∷ lines_of text else in_front b (lines_of text)

-- a line without a carriage return at its end
unfoldable pub bare : List ℕ → List ℕ
bare [] = []
bare (b ∷ []) = ifᵇ b =ᵇ return then [] else b ∷ []
bare (b ∷ c ∷ line) = b ∷ bare (c ∷ line)

-- a space or a tab
unfoldable pub blank : ℕ → Bool
blank b = ifᵇ b =ᵇ space then true else b =ᵇ tab

-- a blank line or a comment
unfoldable pub passed_over : List ℕ → Bool
passed_over [] = true
passed_over (b ∷ line) = ifᵇ b =ᵇ hash then true else (ifᵇ blank b then passed_over line else false)

-- a line that begins a sheet: `sheet`, or `sheet`, a space and a name
unfoldable pub begins_sheet : List ℕ → Bool
begins_sheet line = ifᵇ length line =ᵇ 5 then stands (bytes_of "sheet") line else stands (bytes_of "sheet ") line

-- the number of the next line; the greatest of 32 bits stays
unfoldable pub next_number : ℕ → ℕ
next_number lines = ifᵇ lines <ᵇ 4294967295 then lines + 1 else lines
