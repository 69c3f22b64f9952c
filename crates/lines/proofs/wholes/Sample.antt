-- The three lines that the definition prints, computed; that of S by way of the numbers of its design.
use mathlib.Core.Path.{◌≡◌, refl, ap, ◌∙◌}
use mathlib.Core.List.{List, [], ◌∷◌}
use Prim.Native.Nat.{ℕ}
use lib.IntN.{ℤ}
use Rattle.sheet.specs.CaseS.{sheet_s}
use Rattle.design.specs.Design.{design_of}
use Rattle.design.specs.Numbers.{numbers_of}
use Rattle.design.specs.Starred.{writing}
use Rattle.design.proofs.Promises.{starred}
use Rattle.lines.specs.Decimals.{digits_within, digits, count_text, number_text}
use Rattle.lines.specs.Lines.{spaced, levels_line, sheet_line, route_line}
use Rattle.lines.specs.Starred.{numbers_of_s, line_of_s}

-- L 0 0 0
pub first_line : levels_line 0 0 0 ≡ 76 ∷ 32 ∷ 48 ∷ 32 ∷ 48 ∷ 32 ∷ 48 ∷ 10 ∷ []
unfolding levels_line spaced count_text digits digits_within
first_line = refl

-- S is the first of the starred cases
abbrev first : List (List ℤ) → List ℤ
first [] = []
first (numbers ∷ others) = numbers

-- 1 0 0 0 1 1170 1170 1170 14400 0 2 0 0 1
numbers_printed : sheet_line 1 numbers_of_s ≡ line_of_s
unfolding sheet_line spaced number_text count_text digits digits_within
numbers_printed = refl

pub numbers_s : (table : List ℕ) → numbers_of (design_of (writing sheet_s) table) ≡ numbers_of_s
numbers_s table = ap first (starred table)

pub line_s : (table : List ℕ) → sheet_line 1 (numbers_of (design_of (writing sheet_s) table)) ≡ line_of_s
line_s table = ap (sheet_line 1) (numbers_s table) ∙ numbers_printed

-- R 1 1 0
pub last_line : route_line 1 1 0 ≡ 82 ∷ 32 ∷ 49 ∷ 32 ∷ 49 ∷ 32 ∷ 48 ∷ 10 ∷ []
unfolding route_line spaced count_text digits digits_within
last_line = refl
