-- The lanes: named, or both sides of the rule (section 15.6).
use Rattle.std.specs.Prelude.{ℕ, List, [], ◌∷◌, ◌++◌}
use Rattle.laws.specs.Choice.{ifᵇ◌then◌else◌, ◌<ᵇ◌, ◌=ᵇ◌}
use Rattle.blanks.specs.declared.Figure.TheVariants.{Count}
use Rattle.lanes.specs.Lanes.{sides_of}
use Rattle.lanes.specs.declared.Sides.{Sides}
use Rattle.typed.specs.Rows.{bytes_of}
use Rattle.worksheet.specs.Filling.{with}

-- which side is greater, and the lanes that it comes to
unfoldable pub greater_text : Sides → List ℕ
greater_text sides =
    ifᵇ sides.traffic <ᵇ sides.limit
    then bytes_of "  the second is greater: one lane\n"
    else (ifᵇ sides.traffic =ᵇ sides.limit
    then bytes_of "  they are equal: two lanes\n"
    else bytes_of "  the first is greater: two lanes\n")

unfoldable pub traffic_text : Sides → List ℕ
traffic_text sides =
    with "LANES by the traffic\n  channel m x ships in hundredths %0, 4444800 x knots %0\n" (Count sides.traffic ∷ Count sides.limit ∷ [])
    ++ greater_text sides

unfoldable pub lanes_part : ℕ → ℕ → ℕ → ℕ → List ℕ
lanes_part named channel ships knots =
    ifᵇ named =ᵇ 1
    then bytes_of "LANES named on the sheet\n  one lane\n"
    else (ifᵇ named =ᵇ 2
    then bytes_of "LANES named on the sheet\n  two lanes\n"
    else traffic_text (sides_of channel ships knots))
