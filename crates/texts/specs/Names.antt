-- The name of a sheet (section 14.1).
use Rattle.std.specs.Prelude.{ℕ, ◌+◌, ◌-◌, min, List, [], ◌∷◌, length, take, drop}
use Rattle.laws.specs.Choice.{ifᵇ◌then◌else◌}
use Rattle.texts.specs.Cutting.{lines_of, bare, begins_sheet}
use Rattle.texts.specs.declared.Span.{Span}

-- the bytes in front of a name: `sheet` and a space
abbrev pub front_bytes : ℕ
front_bytes = 6

-- the name of the first line that begins a sheet; none where it is `sheet` alone, or where no line begins a sheet
unfoldable pub name_from : List (List ℕ) → List ℕ
name_from [] = []
name_from (line ∷ lines) = ifᵇ begins_sheet (bare line) then drop front_bytes (bare line) else name_from lines

-- a part of a text, and its bytes
abbrev pub span : ℕ → ℕ → Span
span start end = record { start = start; end = end }

abbrev pub bytes_in : List ℕ → Span → List ℕ
bytes_in text part = take (part.end - part.start) (drop part.start text)

-- where that name stands in a text of so many bytes whose lines from a place on are these
unfoldable pub name_in : ℕ → ℕ → List (List ℕ) → Span
name_in bytes at [] = span at at
name_in bytes at (line ∷ lines) =
    ifᵇ begins_sheet (bare line)
    then span (at + min front_bytes (length (bare line))) (at + length (bare line))
    else name_in bytes (min (at + length line + 1) bytes) lines

-- where the name of the first sheet that begins from a place on stands
unfoldable pub name_after : List ℕ → ℕ → Span
name_after text from = let at = min from (length text) in name_in (length text) at (lines_of (drop at text))
