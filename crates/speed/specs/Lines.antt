-- Speeds by their weights, and straight lines over a grid (section 13.2): exact, as parts of a whole.
use Rattle.std.specs.Prelude.{ℕ, ◌+◌, ◌-◌, ◌*◌, ◌/◌, ◌%◌, Option, Some, None}
use Rattle.laws.specs.Choice.{ifᵇ◌then◌else◌, ◌=ᵇ◌}

-- the parts of a speed, 0 where a needed point is missing
abbrev pub parts_of : Option ℕ → ℕ
parts_of (Some parts) = parts
parts_of None = 0

-- so many times a speed
abbrev pub times : ℕ → Option ℕ → Option ℕ
times weight (Some parts) = Some (weight * parts)
times weight None = None

-- the part of a speed that has a weight; one without weight is not needed
unfoldable pub part : ℕ → Option ℕ → Option ℕ
part weight speed = ifᵇ weight =ᵇ 0 then Some 0 else times weight speed

-- two parts together
abbrev pub together : Option ℕ → Option ℕ → Option ℕ
together (Some one) (Some other) = Some (one + other)
together (Some one) None = None
together None speed = None

-- two speeds, each by its weight
unfoldable pub weighed : ℕ → Option ℕ → ℕ → Option ℕ → Option ℕ
weighed near here far next = together (part near here) (part far next)

-- the straight line between the speeds at two neighbouring lines of a grid, times its step
unfoldable pub straight : ℕ → ℕ → (ℕ → Option ℕ) → Option ℕ
straight step x at = weighed (step - x % step) (at (x / step)) (x % step) (at (x / step + 1))
