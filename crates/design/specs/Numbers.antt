-- The numbers of a design: code, field and figures, all 0 when refused (sections 8, 9 and 10).
use Rattle.std.specs.Prelude.{ℕ, ◌-◌, List, [], ◌∷◌, ℤ, pos, replicate, Result, Ok, Err}
use Rattle.datum.specs.Datum.{level_of}
use Rattle.lanes.specs.Lanes.{lane_count}
use Rattle.design.specs.Refusals.{reason_number, reason_field}
use Rattle.design.specs.declared.Figures.{Figures}
use Rattle.design.specs.declared.Reason.{Reason}

-- the code of an answer, 0 or the number, and its field
abbrev pub code_of : Result Figures Reason → ℕ
code_of (Ok f) = 0
code_of (Err r) = reason_number r

abbrev pub field_of : Result Figures Reason → ℕ
field_of (Ok f) = 0
field_of (Err r) = reason_field r

-- how many numbers an answer has
abbrev pub number_count : ℕ
number_count = 13

-- code, field, level, lanes, s, cut, datum depth, width, widening, columns tried, three classes
abbrev pub answered_numbers : Figures → List ℤ
answered_numbers f =
    pos 0 ∷ pos 0 ∷ level_of f.level ∷ pos (lane_count f.lanes) ∷ pos f.sailing.0 ∷ pos f.cut.0 ∷ f.datum.0 ∷ f.width
    ∷ f.widening ∷ pos f.columns ∷ pos f.classes.ship ∷ pos f.classes.width ∷ pos f.classes.depth ∷ []

-- code, field, and zeros
abbrev pub refused_numbers : ℕ → ℕ → List ℤ
refused_numbers number field = pos number ∷ pos field ∷ replicate (number_count - 2) (pos 0)

unfoldable pub numbers_of : Result Figures Reason → List ℤ
numbers_of (Ok f) = answered_numbers f
numbers_of (Err r) = refused_numbers (reason_number r) (reason_field r)
