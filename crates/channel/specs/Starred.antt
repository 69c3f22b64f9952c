-- The sample of section 10: case S, and no file.
use Rattle.std.specs.Prelude.{ℕ, List, [], ◌∷◌, ◌++◌}
use Rattle.lines.specs.Starred.{line_of_s}

-- L 0 0 0, the line of S, R 1 1 0
abbrev pub text_of_s : List ℕ
text_of_s = 76 ∷ 32 ∷ 48 ∷ 32 ∷ 48 ∷ 32 ∷ 48 ∷ 10 ∷ (line_of_s ++ 82 ∷ 32 ∷ 49 ∷ 32 ∷ 49 ∷ 32 ∷ 48 ∷ 10 ∷ [])
