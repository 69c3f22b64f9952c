-- The dredging interval (section 1, field 10).
use Rattle.std.specs.Prelude.{ℕ, List, [], ◌∷◌, get_or}
use Rattle.laws.specs.Choice.{ifᵇ◌then◌else◌, ◌<ᵇ◌}

-- the codes 0 to 5, in hundredths of a year
abbrev pub intervals : List ℕ
intervals = 25 ∷ 33 ∷ 50 ∷ 100 ∷ 200 ∷ 300 ∷ []

-- the interval of a code; a code past the last counts as the last
unfoldable pub interval_of : ℕ → ℕ
interval_of code = ifᵇ 5 <ᵇ code then 300 else get_or intervals code 0
