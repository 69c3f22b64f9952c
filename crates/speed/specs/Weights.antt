-- The weight of a point of the table in the critical speed (section 13.3): which points are needed.
use Rattle.std.specs.Prelude.{◌≡◌, ℕ, zero, suc, ◌+◌, ◌-◌, ◌*◌, ◌<◌, None}
use Rattle.datum.specs.Datum.{dug}
use Rattle.speed.specs.declared.Section.{Section}
use Rattle.speed.specs.Table.{shallow_point, full_point}

-- the weight of line k of a grid at x: the step less the distance of x from the line, or 0 if negative
unfoldable pub weight : ℕ → ℕ → ℕ → ℕ
weight step x k = step - ((x - k * step) + (k * step - x))

-- of a point of the shallow row and of one of the full sections, out of the whole of 5,000 × 4 × 100 × cut
abbrev pub shallow_weight : Section → ℕ → ℕ
shallow_weight q metres = 20000 * weight 100 q.cut.0 metres * (q.cut.0 - dug q.natural.0 q.cut.0)

abbrev pub full_weight : Section → ℕ → ℕ → ℕ → ℕ
full_weight q width slope metres =
    weight 5000 q.width width * weight 4 q.slope slope * weight 100 q.cut.0 metres * dug q.natural.0 q.cut.0

-- a point that is needed, as its weight is not 0, is blank or outside the table
pub data Lacking (q : Section) : Type 0 where
  of_shallow : (metres : ℕ) → 0 < shallow_weight q metres → shallow_point metres ≡ None → Lacking q
  of_full : (width slope metres : ℕ) → 0 < full_weight q width slope metres → full_point width slope metres ≡ None → Lacking q

-- a sum over the first lines of a grid
abbrev pub sum : ℕ → (ℕ → ℕ) → ℕ
sum zero f = 0
sum (suc n) f = sum n f + f n
