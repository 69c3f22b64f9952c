-- The rows of the typed sheet, in the order of the fields (section 14.2).
use Rattle.std.specs.Prelude.{ℕ, ◌+◌, get_or, take, replicate}
use Prim.Native.Char.{code}
use Prim.Native.String.{String, [] as empty, ◌∷◌ as ◌then◌}
use mathlib.Core.List.{List, [], ◌∷◌, ◌++◌, map, flatten}
use Rattle.laws.specs.Choice.{ifᵇ◌then◌else◌, ◌<ᵇ◌, ◌=ᵇ◌}
use Rattle.sheet.specs.Fields.{range_of}
use Rattle.sheet.specs.declared.Range.{Range}
use Rattle.typed.specs.declared.Kind.{Kind}
use Rattle.typed.specs.declared.Kind.TheVariants.{Whole, Tenths, Hundredths, Words, Level}
use Rattle.typed.specs.declared.table.Row.{Row}

-- the bytes of a text
abbrev pub bytes_of : String → List ℕ
bytes_of empty = []
bytes_of (c then s) = code c ∷ bytes_of s

-- a name, a unit or a word in its place of 16 bytes: what is shorter ends in spaces
abbrev pub slot : String → List ℕ
slot word = take 16 (bytes_of word ++ replicate 16 32)

-- six words in theirs
abbrev pub slots : List String → List ℕ
slots words = take 96 (flatten (map slot words) ++ replicate 96 32)

-- a row: its name, how its figure is typed, its unit, and the words of its codes
abbrev pub row : String → Kind → String → List String → Row
row name kind unit words = record { name = slot name; kind = kind; unit = slot unit; words = slots words }

unfoldable pub rows : List Row
rows =
    row "deadweight" Whole "t" []
    ∷ row "draft" Whole "cm" []
    ∷ row "length" Whole "cm" []
    ∷ row "beam" Whole "cm" []
    ∷ row "speed" Whole "kn" []
    ∷ row "natural-bed" Whole "cm" []
    ∷ row "soil" Words "" ("mud" ∷ "deposited" ∷ "dense" ∷ "grade-3" ∷ [])
    ∷ row "wave-allowance" Whole "cm" []
    ∷ row "silting" Whole "per-mille/yr" []
    ∷ row "interval" Words "yr" ("0.25" ∷ "0.33" ∷ "0.50" ∷ "1.00" ∷ "2.00" ∷ "3.00" ∷ [])
    ∷ row "lanes" Words "" ("by-traffic" ∷ "one" ∷ "two" ∷ [])
    ∷ row "channel-length" Whole "m" []
    ∷ row "ships" Hundredths "/day" []
    ∷ row "water" Words "" ("open" ∷ "sheltered" ∷ [])
    ∷ row "handling" Words "" ("good" ∷ "fair" ∷ "poor" ∷ [])
    ∷ row "cross-wind" Whole "kn" []
    ∷ row "cross-current" Tenths "kn" []
    ∷ row "along-current" Tenths "kn" []
    ∷ row "wave-height" Whole "cm" []
    ∷ row "aids" Words "" ("complete" ∷ "good" ∷ "middle" ∷ "poor" ∷ [])
    ∷ row "bottom" Words "" ("soft" ∷ "hard-smooth" ∷ "hard-rough" ∷ [])
    ∷ row "cargo" Words "" ("low-danger" ∷ "middle-danger" ∷ "high-danger" ∷ [])
    ∷ row "left-bank" Words "" ("sloping" ∷ "steep" ∷ [])
    ∷ row "right-bank" Words "" ("sloping" ∷ "steep" ∷ [])
    ∷ row "turn" Whole "deg" []
    ∷ row "radius" Whole "m" []
    ∷ row "level" Level "cm" []
    ∷ row "side-slope" Whole "m/m" []
    ∷ []

-- how many rows there are, and which of them is the level's
abbrev pub count : ℕ
count = 28

abbrev pub level_row : ℕ
level_row = 26

-- the row after the first i; past them one with no name
unfoldable pub row_at : ℕ → Row
unfolding rows
row_at i = get_or rows i (row "" Whole "" [])

-- The values of a row's figure. The level's figure is 0 off the record, or one more than its field 28; the rows before it have the
-- field of their number, the one behind it the next.
unfoldable pub values_of : ℕ → Range
values_of i =
    ifᵇ i <ᵇ level_row
    then range_of i
    else
    (ifᵇ i =ᵇ level_row
    then record { least = 0; greatest = 2001 }
    else (ifᵇ i <ᵇ count then range_of (i + 1) else record { least = 0; greatest = 0 }))
