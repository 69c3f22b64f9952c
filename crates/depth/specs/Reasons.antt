-- Why a stretch has no depth (section 4.7): the first column that the worksheet cannot use, with no word of how the worksheet is followed.
use Rattle.std.specs.Prelude.{List, [], ◌∷◌, ◌≢◌, ℕ, ◌≤◌, ◌<◌, Result, Ok, Err}
use Rattle.laws.specs.Extremes.{Least}
use Rattle.laws.specs.Rows.{Row, ◌when◌}
use Rattle.depth.specs.declared.Stretch.{Stretch}
use Rattle.depth.specs.declared.Column.{Column}
use Rattle.depth.specs.declared.Column.TheVariants.{A}
use Rattle.depth.specs.declared.DepthFault.{DepthFault}
use Rattle.depth.specs.declared.DepthFault.TheVariants.{NoSquatEntry, SiltOver, CutOver}
use Rattle.depth.specs.Squat.{none}
use Rattle.depth.specs.Depth.{z3, natural_of, filling, sailing, z4, Deep, own_column}
use Rattle.depth.specs.declared.DepthFigures.{DepthFigures}

-- the figure of a column: the least cut that is deep enough in it
abbrev pub IsFigure : Stretch → Column → ℕ → Type 0
IsFigure q c = Least (Deep q c)

-- every cut of a column silts up whole, so that it has no figure: s exceeds N, and P × interval is 100,000 or more
abbrev pub SiltsUp : Stretch → Column → Type 0
SiltsUp q c = (natural_of q < sailing q c) × (100000 ≤ filling q)

-- a column that can be used, with its figure d: an entry, silt of at most 120, d at most 3,000
pub record Usable (q : Stretch) (c : Column) (d : ℕ) : Type 0 where
  pub entry : z3 q c < none
  pub figure : IsFigure q c d
  pub silt : z4 q c d ≤ 120
  pub to : d ≤ 3000

-- a column that fails by a test, and by none before it; one with no figure, as every cut silts up whole, fails by the silt
abbrev pub Fails : Stretch → Column → DepthFault → Type 0
Fails q c NoSquatEntry = none ≤ z3 q c
Fails q c SiltOver = (z3 q c < none) × ((d : ℕ) → IsFigure q c d → 120 < z4 q c d)
Fails q c CutOver = (z3 q c < none) × ((d : ℕ) × IsFigure q c d × (z4 q c d ≤ 120) × (3000 < d))

-- from a column the worksheet comes to another: it is there, or it can use the column and its figure falls in one from which it comes there
pub data Comes (q : Stretch) : Column → Column → Type 0 where
  there : (c : Column) → Comes q c c
  by_way_of : (c c' : Column) (d : ℕ) → Usable q c d → own_column q d ≢ c → Comes q (own_column q d) c' → Comes q c c'

-- the first column that the worksheet cannot use fails by a test: the columns before it moved on
pub record FirstUnusable (q : Stretch) (fault : DepthFault) : Type 0 where
  pub column : Column
  pub reached : Comes q A column
  pub fails : Fails q column fault

-- a depth with its reason
abbrev pub Reasoned : Stretch → Result DepthFigures DepthFault → Type 0
Reasoned q (Ok f) = Unit {0}
Reasoned q (Err fault) = FirstUnusable q fault

-- the rows of section 8, in the order of the worksheet's tests
abbrev pub depth_rows : Stretch → List Row
depth_rows q =
    (13 when FirstUnusable q NoSquatEntry)
    ∷ (14 when FirstUnusable q SiltOver)
    ∷ (15 when FirstUnusable q CutOver)
    ∷ []
