-- Case S as it is printed (section 10).
use Rattle.std.specs.Prelude.{ℕ, ℤ, pos, List, [], ◌∷◌}

-- the numbers of its design
abbrev pub numbers_of_s : List ℤ
numbers_of_s =
    pos 0 ∷ pos 0 ∷ pos 0 ∷ pos 1 ∷ pos 1170 ∷ pos 1170 ∷ pos 1170 ∷ pos 14400 ∷ pos 0 ∷ pos 2 ∷ pos 0 ∷ pos 0 ∷ pos 1 ∷ []

-- its line: 1 0 0 0 1 1170 1170 1170 14400 0 2 0 0 1
abbrev pub line_of_s : List ℕ
line_of_s =
    49 ∷ 32 ∷ 48 ∷ 32 ∷ 48 ∷ 32 ∷ 48 ∷ 32 ∷ 49 ∷ 32 ∷ 49 ∷ 49 ∷ 55 ∷ 48 ∷ 32 ∷ 49 ∷ 49 ∷ 55 ∷ 48 ∷ 32 ∷ 49 ∷ 49 ∷ 55 ∷ 48
    ∷ 32 ∷ 49 ∷ 52 ∷ 52 ∷ 48 ∷ 48 ∷ 32 ∷ 48 ∷ 32 ∷ 50 ∷ 32 ∷ 48 ∷ 32 ∷ 48 ∷ 32 ∷ 49 ∷ 10 ∷ []
