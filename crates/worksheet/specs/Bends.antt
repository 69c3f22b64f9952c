-- The bend: its least radius, its radius and its widening (section 15.9).
use Rattle.std.specs.Prelude.{ℕ, List, [], ◌∷◌, Result, Ok, Err}
use Rattle.laws.specs.Choice.{ifᵇ◌then◌else◌, ◌=ᵇ◌}
use Rattle.blanks.specs.declared.Figure.TheVariants.{Count}
use Rattle.lanes.specs.declared.Lanes.{Lanes}
use Rattle.typed.specs.Rows.{bytes_of}
use Rattle.width.specs.Bends.{bend_of, least_radius}
use Rattle.worksheet.specs.Filling.{with}
use Rattle.width.specs.declared.WidthFault.{WidthFault}

-- what a bend asks for
abbrev pub bend_text : Result ℕ WidthFault → ℕ → ℕ → ℕ → List ℕ
bend_text (Ok cm) turn radius length =
    with "BEND\n  turn %0 deg, least radius %0 m, radius %0 m, widening %0 cm\n"
    (Count turn ∷ Count (least_radius turn length) ∷ Count radius ∷ Count cm ∷ [])
bend_text (Err fault) turn radius length =
    with "BEND\n  turn %0 deg, least radius %0 m, radius %0 m: too tight\n" (Count turn ∷ Count (least_radius turn length) ∷ Count radius ∷ [])

unfoldable pub bend_part : ℕ → ℕ → ℕ → ℕ → Lanes → List ℕ
bend_part turn radius length knots lanes =
    ifᵇ turn =ᵇ 0 then bytes_of "BEND\n  straight\n" else bend_text (bend_of turn radius length knots lanes) turn radius length
