-- A line by its parts, and a line by both engines goes on where the worksheet's has its newline. By how words stand behind others.
use mathlib.Core.Path.{◌≡◌, refl}
use mathlib.Core.List.{List, [], ◌∷◌, ◌++◌, map, append_assoc, append-nil}
use Prim.Native.Nat.{ℕ}
use lib.IntN.{ℤ}
use Rattle.lines.specs.Decimals.{count_text, number_text}
use Rattle.lines.specs.Lines.{newline, letter_r, spaced, line_text, plain_text, sheet_line, both_line, line_in, route_line, both_route_line}
use Rattle.lines.specs.declared.Form.{Form}
use Rattle.lines.specs.declared.Form.TheVariants.{Alone, Both}
use Rattle.lines.proofs.putting.Spacing.{spaced_on}

-- the index, the numbers and what the form has behind them, one behind another
pub line_by_parts : (form : Form) (index : ℕ) (numbers : List ℤ) (plain : List ℕ)
    → ((count_text index ++ spaced (map number_text numbers)) ++ plain_text form plain) ++ newline ∷ [] ≡ line_in form index numbers plain
unfolding sheet_line both_line
line_by_parts Alone index numbers plain = rw append-nil
line_by_parts Both index numbers plain = rw (spaced_on (count_text index) (map number_text numbers) (map count_text plain))

-- a line, and the same with more words before its newline
abbrev pub Longer : List ℕ → List ℕ → List (List ℕ) → Type 0
Longer line longer more = (text : List ℕ) × (line ≡ text ++ newline ∷ []) × (longer ≡ text ++ (spaced more ++ newline ∷ []))

longer_line : (first : List ℕ) (words more : List (List ℕ)) → Longer (line_text first words) (line_text first (words ++ more)) more
longer_line first words more = (
  first ++ spaced words,
  refl,
  rw (← spaced_on first words more) (append_assoc (first ++ spaced words) (spaced more) (newline ∷ [])),
)

pub longer_sheet_line : (index : ℕ) (numbers : List ℤ) (plain : List ℕ) → Longer (sheet_line index numbers) (both_line index numbers plain) (map count_text plain)
unfolding sheet_line both_line
longer_sheet_line index numbers plain = longer_line (count_text index) (map number_text numbers) (map count_text plain)

pub longer_route_line : (sheets answered class agreed : ℕ) → Longer (route_line sheets answered class) (both_route_line sheets answered class agreed) (count_text agreed ∷ [])
unfolding route_line both_route_line
longer_route_line sheets answered class agreed = longer_line (letter_r ∷ []) (map count_text (sheets ∷ answered ∷ class ∷ [])) (count_text agreed ∷ [])
