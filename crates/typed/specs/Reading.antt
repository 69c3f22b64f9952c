-- What a line says in the place of a row: the figure is guessed, put back as the row has it and compared (sections 14.2 and 14.3).
use Rattle.std.specs.Prelude.{ℕ, ◌+◌, ◌-◌, ◌*◌, Bool, true, false, List, [], ◌∷◌, length, drop, Result, Ok, Err, Option, Some, None}
use Rattle.laws.specs.Choice.{ifᵇ◌then◌else◌, ◌≤ᵇ◌, ◌<ᵇ◌, ◌=ᵇ◌}
use Rattle.laws.specs.First.{first_of}
use Rattle.typed.specs.Rows.{bytes_of, count, row_at}
use Rattle.typed.specs.Lines.{point, level_zero, word_text, name_text, front_text, row_text}
use Rattle.typed.specs.declared.EntryFault.TheVariants.{NoName, NoFigure, NoUnit}
use Rattle.typed.specs.declared.Kind.{Kind}
use Rattle.typed.specs.declared.Kind.TheVariants.{Whole, Tenths, Hundredths, Words, Level}
use Rattle.typed.specs.declared.table.Row.{Row}
use Rattle.typed.specs.declared.EntryFault.{EntryFault}

-- a text stands at the front of bytes
unfoldable pub stands : List ℕ → List ℕ → Bool
stands [] bytes = true
stands (a ∷ text) [] = false
stands (a ∷ text) (b ∷ bytes) = ifᵇ a =ᵇ b then stands text bytes else false

-- bytes are a text
unfoldable pub same : List ℕ → List ℕ → Bool
same text bytes = ifᵇ length text =ᵇ length bytes then stands text bytes else false

-- a number from here on takes no further digit
abbrev pub cap : ℕ
cap = 100000000

-- a point, a digit or the stroke between them
unfoldable pub in_number : ℕ → Bool
in_number byte = ifᵇ byte <ᵇ point then false else byte ≤ᵇ 57

-- a number with one more digit; points are passed over
unfoldable pub digit_on : ℕ → ℕ → ℕ
digit_on value byte = ifᵇ byte <ᵇ 48 then value else 10 * value + (byte - 48)

-- the number that the digits at the front mean, behind those read already; 0 where they are too many
unfoldable pub digits_read : ℕ → List ℕ → ℕ
digits_read value [] = value
digits_read value (b ∷ bytes) = ifᵇ in_number b then (ifᵇ value <ᵇ cap then digits_read (digit_on value b) bytes else 0) else value

-- the figure of a level so far below 0, and of one that bytes may stand for
unfoldable pub below_zero : ℕ → ℕ
below_zero depth = ifᵇ depth <ᵇ level_zero then level_zero - depth else 0

unfoldable pub level_guess : List ℕ → ℕ
level_guess bytes =
    ifᵇ stands (bytes_of "given ") bytes
    then (ifᵇ stands (bytes_of "given -") bytes then below_zero (digits_read 0 (drop 7 bytes)) else digits_read 0 (drop 6 bytes) + level_zero)
    else 0

-- a row's word stands at the front of bytes; the code of the first that does, 0 where none does
unfoldable pub word_stands : List ℕ → List ℕ → ℕ → Bool
word_stands words bytes j = ifᵇ length (word_text words j) =ᵇ 0 then false else stands (word_text words j) bytes

unfoldable pub word_guess : List ℕ → List ℕ → ℕ
word_guess words bytes = first_of (word_stands words bytes) 6 - 1

-- the figure that bytes may stand for in a row
abbrev pub guess_by : Kind → List ℕ → List ℕ → ℕ
guess_by Whole words bytes = digits_read 0 bytes
guess_by Tenths words bytes = digits_read 0 bytes
guess_by Hundredths words bytes = digits_read 0 bytes
guess_by Words words bytes = word_guess words bytes
guess_by Level words bytes = level_guess bytes

unfoldable pub guessed : Row → List ℕ → ℕ
guessed r bytes = guess_by r.kind r.words bytes

-- what a line says of a figure: that it is its figure, or where it is another line
unfoldable pub entry_on : Row → List ℕ → ℕ → Result ℕ EntryFault
entry_on r line n =
    ifᵇ stands (front_text r n) line
    then (ifᵇ same (row_text r n) line then Ok n else (Err NoUnit))
    else (Err NoFigure)

-- what a line says in the place of a row
unfoldable pub entry_by : Row → List ℕ → Result ℕ EntryFault
entry_by r line =
    ifᵇ stands (name_text r) line
    then entry_on r line (guessed r (drop (length (name_text r)) line))
    else (Err NoName)

unfoldable pub entry_of : ℕ → List ℕ → Result ℕ EntryFault
entry_of i line = entry_by (row_at i) line

-- a line has the name of the row after the first i; the first such row, none where there is none
unfoldable pub named : List ℕ → ℕ → Bool
named line i = stands (name_text (row_at i)) line

unfoldable pub row_named : List ℕ → Option ℕ
row_named line = ifᵇ first_of (named line) count =ᵇ 0 then None else Some (first_of (named line) count - 1)
