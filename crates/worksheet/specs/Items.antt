-- A line of an item: its place in the annex, the words of its band, tenths of the beam and cm (section 15.8).
use Rattle.std.specs.Prelude.{ℕ, ◌*◌, ◌/◌, ◌%◌, List, [], ◌∷◌, ◌++◌}
use Rattle.blanks.specs.declared.Figure.TheVariants.{Count, Word}
use Rattle.worksheet.specs.Filling.{worded}

unfoldable pub item_line : List ℕ → List ℕ → ℕ → ℕ → List ℕ
item_line front words tenths beam =
    front
    ++ worded words "%O  %6  %7.%0\n" (Word 0 ∷ Count tenths ∷ Count (tenths * beam / 10) ∷ Count (tenths * beam % 10) ∷ [])
