-- Bends: the least radius and the widening (section 6).
use Rattle.std.specs.Prelude.{ℕ, ◌*◌, ◌<◌, ◌≤◌, Result, Ok, Err}
use Rattle.laws.specs.Choice.{ifᵇ◌then◌else◌, ◌<ᵇ◌, ◌=ᵇ◌}
use Rattle.laws.specs.Rounding.{up}
use Rattle.lanes.specs.Lanes.{lane_count}
use Rattle.lanes.specs.declared.Lanes.{Lanes}
use Rattle.width.specs.declared.WidthFault.TheVariants.{BendTooTight}
use Rattle.width.specs.declared.WidthFault.{WidthFault}

-- least radius of a bend: 3 lengths under 25°, 5 under 35°, 8 under 55°, else 10
unfoldable pub least_lengths : ℕ → ℕ
least_lengths turn = ifᵇ turn <ᵇ 25 then 3 else (ifᵇ turn <ᵇ 35 then 5 else (ifᵇ turn <ᵇ 55 then 8 else 10))

-- the same in whole metres, rounded up; the length is in cm
unfoldable pub least_radius : ℕ → ℕ → ℕ
least_radius turn length = up (least_lengths turn * length) 100

-- 9144 × turn × knots² × length² × lanes / (2,446,000,000 × radius) cm, rounded up
unfoldable pub widening_of : ℕ → ℕ → ℕ → ℕ → Lanes → ℕ
widening_of turn radius length knots lanes =
    up (9144 * turn * (knots * knots) * (length * length) * lane_count lanes) (2446000000 * radius)

-- a straight, which is a turn of 0, has no least radius and no widening; a bend under 10 lengths adds the widening.
-- The radius is in m and the length in cm.
unfoldable pub bend_of : ℕ → ℕ → ℕ → ℕ → Lanes → Result ℕ WidthFault
bend_of turn radius length knots lanes =
    ifᵇ turn =ᵇ 0 then Ok 0 else
    (ifᵇ 100 * radius <ᵇ least_lengths turn * length then (Err BendTooTight) else
    (ifᵇ 100 * radius <ᵇ 10 * length then Ok (widening_of turn radius length knots lanes) else Ok 0))

-- its figure: the widening in cm, 0 when refused
abbrev pub widening_figure : Result ℕ WidthFault → ℕ
widening_figure (Ok cm) = cm
widening_figure (Err fault) = 0

-- a radius of at least 3 lengths that is not 0, as every bend that is widened has
pub record LongEnough (radius length : ℕ) : Type 0 where
  pub some : 0 < radius
  pub three : 3 * length ≤ 100 * radius
