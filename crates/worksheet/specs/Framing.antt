-- The head of a page and its end (section 15.3).
use Rattle.std.specs.Prelude.{ℕ, zero, suc, ◌+◌, ◌/◌, ◌%◌, min, Bool, false, length, take, get_or}
use mathlib.Core.List.{List, [], ◌∷◌, ◌++◌, map, flatten}
use Rattle.laws.specs.Choice.{ifᵇ◌then◌else◌, ◌<ᵇ◌, ◌≤ᵇ◌, ◌=ᵇ◌}
use Rattle.blanks.specs.declared.Figure.TheVariants.{Count}
use Rattle.texts.specs.Messages.{shown}
use Rattle.typed.specs.Rows.{bytes_of}
use Rattle.worksheet.specs.Filling.{with}

-- the bytes that a page is given, and each part of the route's
abbrev pub page_bytes : ℕ
page_bytes = 24576

-- how many bytes of a name are shown at most
abbrev pub name_bytes : ℕ
name_bytes = 36

-- a byte that is not the first of its letter
unfoldable pub continues : ℕ → Bool
continues b = ifᵇ b <ᵇ 128 then false else b <ᵇ 192

-- the greatest place up to one at which no letter is torn
unfoldable pub whole_to : List ℕ → ℕ → ℕ
whole_to name zero = 0
whole_to name (suc n) = ifᵇ continues (get_or name (suc n) 0) then whole_to name n else suc n

-- how many bytes of a name are shown
unfoldable pub name_end : List ℕ → ℕ
name_end name = ifᵇ length name ≤ᵇ name_bytes then length name else whole_to name name_bytes

-- a name behind three spaces, or nothing
unfoldable pub name_text : List ℕ → List ℕ
name_text name = ifᵇ length name =ᵇ 0 then [] else bytes_of "   " ++ map shown (take (name_end name) name)

unfoldable pub head_text : ℕ → List ℕ → List ℕ
head_text index name = (with "CHANNEL WORKSHEET   sheet %0" (Count index ∷ []) ++ name_text name) ++ bytes_of "\n\n"

-- a hexadecimal digit, and the two of a byte
unfoldable pub hex_digit : ℕ → ℕ
hex_digit digit = ifᵇ digit <ᵇ 10 then 48 + digit else 87 + digit

unfoldable pub hex_byte : ℕ → List ℕ
hex_byte b = hex_digit (b / 16) ∷ hex_digit (b % 16) ∷ []

unfoldable pub hex_text : List ℕ → List ℕ
hex_text bytes = flatten (map hex_byte bytes)

-- an empty line, and the line for name, date and signature
unfoldable pub signature_text : List ℕ
signature_text = bytes_of "\nname ____________________  date __________  signature __________________\n"

-- the end of a page: the line to sign, the bytes, and a form feed
unfoldable pub end_text : List ℕ → List ℕ
end_text bytes = ((signature_text ++ bytes_of "bytes ") ++ hex_text (take (min 28 (length bytes)) bytes)) ++ 10 ∷ 12 ∷ []
