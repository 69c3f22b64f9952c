-- Depth below the design level (sections 4.2 to 4.6), all in cm: what the cut is, with no method of finding it.
use Rattle.std.specs.Prelude.{◌≡◌, ◌⊎◌, ℕ, ◌+◌, ◌*◌, ◌≤◌, ◌<◌, Result, Ok, Err}
use Rattle.std.proofs.Common.{lit≤}
use Rattle.laws.specs.Choice.{ifᵇ◌then◌else◌, ◌≤ᵇ◌}
use Rattle.laws.specs.Rounding.{up}
use Rattle.laws.specs.Extremes.{Least}
use Rattle.datum.specs.Datum.{dug}
use Rattle.depth.specs.declared.Stretch.{Stretch}
use Rattle.depth.specs.declared.Column.{Column}
use Rattle.depth.specs.declared.Column.TheVariants.{A, B, C}
use Rattle.depth.specs.declared.Allowances.{Allowances}
use Rattle.depth.specs.declared.DepthFigures.{DepthFigures}
use Rattle.depth.specs.declared.DepthFault.{DepthFault}
use Rattle.depth.specs.declared.DepthFault.TheVariants.{NoSquatEntry, SiltOver, CutOver}
use Rattle.depth.specs.Squat.{none, squat_of}

-- z0: the ship's list and trim, a four-hundredth of its length, rounded up
abbrev pub z0 : Stretch → ℕ
z0 q = up q.length 400

-- z1: the clearance under the keel, 4 hundredths of the draft and one more for each soil grade, rounded up
abbrev pub z1 : Stretch → ℕ
z1 q = up (q.draft * (4 + q.soil)) 100

-- z2: the wave allowance, as it is given
abbrev pub z2 : Stretch → ℕ
z2 q = q.allowance

-- the three of them
unfoldable pub allowances_of : Stretch → Allowances
allowances_of q = record { list = z0 q; keel = z1 q; wave = z2 q }

-- z3: the squat of a column at the ship's speed
unfoldable pub z3 : Stretch → Column → ℕ
z3 q c = squat_of q.lanes c q.speed

-- N: the natural depth
abbrev pub natural_of : Stretch → ℕ
natural_of q = q.natural.0

-- the column of a cut d of which h is dug: A when 10h ≤ 5d, B when 10h ≤ 8d, else C
abbrev pub column_by : ℕ → ℕ → Column
column_by h d = ifᵇ 10 * h ≤ᵇ 5 * d then A else (ifᵇ 10 * h ≤ᵇ 8 * d then B else C)

unfoldable pub column_of : ℕ → ℕ → Column
column_of natural d = column_by (dug natural d) d

-- sailing depth s = draft + z0 + z1 + z2 + z3, here with any squat
unfoldable pub sailing_with : Stretch → ℕ → ℕ
sailing_with q squat = q.draft + z0 q + z1 q + z2 q + squat

-- s: the sailing depth of a column
unfoldable pub sailing : Stretch → Column → ℕ
sailing q c = sailing_with q (z3 q c)

-- P × interval: the part of what is dug that silts up until it is dredged again, in hundred-thousandths
abbrev pub filling : Stretch → ℕ
filling q = q.silting * q.interval

-- the silt of what is dug of a depth d: P × interval × (d - N, or 0 if negative) / 100,000, rounded up
unfoldable pub silt_to : Stretch → ℕ → ℕ
silt_to q d = up (filling q * dug (natural_of q) d) 100000

-- z4: the silt of a column, of the whole cut d; 0 when s ≤ N
unfoldable pub z4 : Stretch → Column → ℕ → ℕ
z4 q c d = ifᵇ sailing q c ≤ᵇ natural_of q then 0 else silt_to q d

-- a cut d is deep enough in a column: at least s + z4
abbrev pub Deep : Stretch → Column → ℕ → Type 0
Deep q c d = sailing q c + z4 q c d ≤ d

-- a column serves a cut d: it has an entry, z4 is at most 120, and d is deep enough
pub record Serves (q : Stretch) (c : Column) (d : ℕ) : Type 0 where
  pub entry : z3 q c < none
  pub silt : z4 q c d ≤ 120
  pub deep : Deep q c d

-- the column in which a cut falls
abbrev pub own_column : Stretch → ℕ → Column
own_column q d = column_of (natural_of q) d

-- a cut as it must be: from 1 to 3,000, and served by its own column
pub record Meets (q : Stretch) (d : ℕ) : Type 0 where
  pub from : 1 ≤ d
  pub to : d ≤ 3000
  pub served : Serves q (own_column q d) d

-- what the figures of a depth are: the cut is the least that meets this, and the s of its column is the sailing depth
pub record Figures (q : Stretch) (f : DepthFigures) : Type 0 where
  pub cut : Least (Meets q) f.cut.0
  pub sailing_depth : f.sailing.0 ≡ sailing q (own_column q f.cut.0)

-- a depth as it is defined: the figures, or that no cut meets this
abbrev pub AsDefined : Stretch → Result DepthFigures DepthFault → Type 0
AsDefined q (Ok f) = Figures q f
AsDefined q (Err fault) = (d : ℕ) → Meets q d → ⊥

-- the ranges of the figures, for whoever uses them
pub record Ranges (f : DepthFigures) : Type 0 where
  pub cut_from : 1 ≤ f.cut.0
  pub cut_to : f.cut.0 ≤ 3000
  pub sailing_to : f.sailing.0 ≤ f.cut.0
  pub columns_from : 1 ≤ f.columns
  pub columns_to : f.columns ≤ 3

-- the number that turns a sheet away for a fault (section 8)
abbrev pub depth_fault_number : DepthFault → ℕ
depth_fault_number NoSquatEntry = 13
depth_fault_number SiltOver = 14
depth_fault_number CutOver = 15

-- 0 is the number of none
pub depth_fault_some : (fault : DepthFault) → 1 ≤ depth_fault_number fault
depth_fault_some NoSquatEntry = lit≤ tt
depth_fault_some SiltOver = lit≤ tt
depth_fault_some CutOver = lit≤ tt

-- the number of a depth, 0 for none
abbrev pub depth_number : Result DepthFigures DepthFault → ℕ
depth_number (Ok f) = 0
depth_number (Err fault) = depth_fault_number fault

-- "no depth" is any of the three
abbrev pub NoDepthNumber : ℕ → Type 0
NoDepthNumber number = (number ≡ 13) ⊎ ((number ≡ 14) ⊎ (number ≡ 15))
