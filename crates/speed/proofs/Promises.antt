-- What the critical speed promises (sections 8 and 13), each cited from its proof. `shallow_speed`, `full_speed`, `critical_speed`, `check_of`
-- and `parts_shown` (of `parts_of`) are what the calls of like names ensure, and `speed_fault_number` is what a fault's `number` ensures.
use Rattle.std.specs.Prelude.{Option, Some, None, Result, Ok}
use mathlib.Core.Path.{◌≡◌, sym}
use mathlib.Core.Logic.{◌↔◌, ◌≢◌}
use Prim.Native.Nat.{ℕ, ◌+◌, ◌*◌, ◌/◌, ◌≤◌, ◌<◌}
use native.Mathlib.Omega.{arith}
use Rattle.laws.specs.Rows.{Exactly}
use Rattle.laws.proofs.Unique.{one_answer}
use Rattle.speed.specs.Table.{shallow_point, full_point}
use Rattle.speed.specs.Lines.{parts_of, times, straight}
use Rattle.speed.specs.Critical.{shallow_speed, full_speed, critical_speed, whole, check_of}
use Rattle.speed.specs.Shown.{parts_shown}
use Rattle.speed.specs.Orders.{AnyOrder}
use Rattle.speed.specs.Weights.{weight, shallow_weight, full_weight, Lacking, sum}
use Rattle.speed.specs.Refusals.{speed_fault_number, check_number, speed_rows}
use Rattle.speed.specs.declared.Section.{Section}
use Rattle.speed.specs.declared.SpeedParts.{SpeedParts}
use Rattle.speed.specs.declared.SpeedFault.{SpeedFault}
use Rattle.speed.proofs.table.Facts as the-table
use Rattle.speed.proofs.lines.Straight.{straight_only, straight_between}
use Rattle.speed.proofs.lines.Orders.{any_order}
use Rattle.speed.proofs.lines.Sums.{weights_add_up}
use Rattle.speed.proofs.Meaning as the-speed
use Rattle.speed.proofs.Refusals.{check_exactly, allowed_exactly}
use Rattle.speed.proofs.Showing.{allowed_to_fastest}
use Rattle.speed.proofs.Ways.{unasked}

-- The table
-- Shallow water has a speed at each whole metre from 4 to 16, and never a lesser one at a greater depth.
pub shallow_filled : (metres : ℕ) → 4 ≤ metres → metres ≤ 16 → (tenths : ℕ) × (shallow_point metres ≡ Some tenths)
shallow_filled = the-table.shallow_there

pub shallow_never_falls : (metres deeper m n : ℕ) → shallow_point metres ≡ Some m → shallow_point deeper ≡ Some n → metres ≤ deeper → m ≤ n
shallow_never_falls = the-table.shallow_rises

-- The blanks of a full section's row come first: below a figure stand figures, down to 16 m.
pub blanks_first : (width slope metres deeper m : ℕ) → full_point width slope metres ≡ Some m → metres ≤ deeper → deeper ≤ 16
    → (n : ℕ) × (full_point width slope deeper ≡ Some n)
blanks_first = the-table.deeper_is_there

-- A wider or flatter section is never slower at a depth, and none is faster than shallow water.
pub wider_never_slower : (width slope metres wider flatter m n : ℕ) → full_point width slope metres ≡ Some m → full_point wider flatter metres ≡ Some n
    → width ≤ wider → slope ≤ flatter → m ≤ n
wider_never_slower = the-table.wider_no_slower

pub full_never_faster : (width slope metres m n : ℕ) → full_point width slope metres ≡ Some m → shallow_point metres ≡ Some n → m ≤ n
full_never_faster = the-table.full_no_faster

-- Straight lines
-- At a grid point the speed is the table's.
pub at_a_shallow_point : (metres : ℕ) → shallow_speed (metres * 100) ≡ times 100 (shallow_point metres)
at_a_shallow_point = the-speed.at_shallow_point

pub at_a_full_point : (width slope metres : ℕ) → full_speed (width * 5000) (slope * 4) (metres * 100) ≡ times 2000000 (full_point width slope metres)
at_a_full_point = the-speed.at_full_point

-- Between two points it lies between them: where those with weight are from low to high, so is the line.
pub line_between : (step x : ℕ) → 0 < step → (at : ℕ → Option ℕ) (low high n : ℕ)
    → ((k : ℕ) → 0 < weight step x k → (low ≤ parts_of (at k)) × (parts_of (at k) ≤ high))
    → straight step x at ≡ Some n → (low * step ≤ n) × (n ≤ high * step)
line_between = straight_between

-- The weights of a grid's lines add up to the whole step, and a line without weight changes nothing.
pub line_weights : (step x lines : ℕ) → 0 < step → x / step + 1 < lines → sum lines (weight step x) ≡ step
line_weights = weights_add_up

pub weightless_unasked : (step x : ℕ) → 0 < step → (f g : ℕ → Option ℕ) → ((k : ℕ) → 0 < weight step x k → f k ≡ g k) → straight step x f ≡ straight step x g
weightless_unasked = straight_only

-- The order in which the straight lines are drawn does not matter: the full section's speed is that of each of the other five.
pub any_order_drawn : (width slope depth : ℕ) → AnyOrder 5000 width 4 slope 100 depth full_point
any_order_drawn width slope depth = any_order 5000 width 4 slope 100 depth (omega arith) full_point

-- The critical speed
-- It is formula (2): shallow water's where nothing is dug, the full section's where all is, and between them by what is dug of the cut.
pub not_dug_is_shallow : (q : Section) → 0 < q.cut.0 → q.cut.0 ≤ q.natural.0 → critical_speed q ≡ times q.cut.0 (times 20000 (shallow_speed q.cut.0))
not_dug_is_shallow = the-speed.not_dug

pub all_dug_is_full : (q : Section) → 0 < q.cut.0 → q.natural.0 ≡ 0 → critical_speed q ≡ times q.cut.0 (full_speed q.width q.slope q.cut.0)
all_dug_is_full = the-speed.all_dug

-- It is missing exactly when a needed point, one whose weight is not 0, is blank or outside the table.
pub missing_exactly : (q : Section) → (critical_speed q ≡ None) ↔ Lacking q
missing_exactly q = (the-speed.critical_missing q, the-speed.lacking_critical q)

-- Else it is the sum of the points' figures by their weights, over as many lines as there are; and the weights add up to the whole.
module _ (q : Section) (lines : ℕ) (width : q.width / 5000 + 1 < lines) (slope : q.slope / 4 + 1 < lines) (depth : q.cut.0 / 100 + 1 < lines) where
  pub known_is_weighted : (n : ℕ) → critical_speed q ≡ Some n
      → n ≡ sum lines (λ k. shallow_weight q k * parts_of (shallow_point k))
      + sum lines (λ i. sum lines (λ j. sum lines (λ k. full_weight q i j k * parts_of (full_point i j k))))
  known_is_weighted = the-speed.critical_weighted q lines width slope depth

  pub weights_are_whole : sum lines (shallow_weight q) + sum lines (λ i. sum lines (λ j. sum lines (λ k. full_weight q i j k))) ≡ whole q.cut.0
  weights_are_whole = the-speed.whole_weight q lines width slope depth

-- It lies between the least and the greatest figure of the points that it needs.
pub between_its_points : (q : Section) (low high n : ℕ)
    → ((k : ℕ) → 0 < shallow_weight q k → (low ≤ parts_of (shallow_point k)) × (parts_of (shallow_point k) ≤ high))
    → ((i j k : ℕ) → 0 < full_weight q i j k → (low ≤ parts_of (full_point i j k)) × (parts_of (full_point i j k) ≤ high))
    → critical_speed q ≡ Some n → (low * whole q.cut.0 ≤ n) × (n ≤ high * whole q.cut.0)
between_its_points = the-speed.critical_between

-- The check
-- 16 exactly when a needed point is blank or outside the table, then 17 exactly when the ship is too fast; every other ship is allowed.
pub number_16_17 : (q : Section) (knots : ℕ) → Exactly (speed_rows q knots) (check_number (check_of q knots))
number_16_17 = check_exactly

-- A slope of 0 asks for no check.
pub no_slope_no_check : (q : Section) (knots : ℕ) → q.slope ≡ 0 → check_of q knots ≡ (Ok tt)
no_slope_no_check q knots none = sym (unasked q knots none)

-- At a known speed a ship is allowed exactly when knots × 1,852 / 3,600 metres a second is at most nine tenths of it; equal is allowed.
pub allowed_to_nine_tenths : (q : Section) (knots parts : ℕ) → q.slope ≢ 0 → critical_speed q ≡ Some parts
    → (check_of q knots ≡ (Ok tt)) ↔ (100 * (knots * 1852) * whole q.cut.0 ≤ 9 * parts * 3600)
allowed_to_nine_tenths = allowed_exactly

-- A ship is allowed exactly up to the fastest speed that is shown, in hundredths of a knot.
pub allowed_to_the_fastest : (q : Section) (knots : ℕ) → q.slope ≢ 0 → 0 < q.cut.0
    → (check_of q knots ≡ (Ok tt)) ↔ ((hundredths : ℕ) × ((parts_shown q).fastest ≡ Some hundredths) × (100 * knots ≤ hundredths))
allowed_to_the_fastest = allowed_to_fastest

-- One answer of each call.
pub shallow_speed_unique : (depth : ℕ) (r t : Option ℕ) → r ≡ shallow_speed depth → t ≡ shallow_speed depth → r ≡ t
shallow_speed_unique depth = one_answer

pub full_speed_unique : (width slope depth : ℕ) (r t : Option ℕ) → r ≡ full_speed width slope depth → t ≡ full_speed width slope depth → r ≡ t
full_speed_unique width slope depth = one_answer

pub critical_speed_unique : (q : Section) (r t : Option ℕ) → r ≡ critical_speed q → t ≡ critical_speed q → r ≡ t
critical_speed_unique q = one_answer

pub check_unique : (q : Section) (knots : ℕ) (r t : Result (Unit {0}) SpeedFault) → r ≡ check_of q knots → t ≡ check_of q knots → r ≡ t
check_unique q knots = one_answer

pub parts_unique : (q : Section) (r t : SpeedParts) → r ≡ parts_shown q → t ≡ parts_shown q → r ≡ t
parts_unique q = one_answer

pub speed_fault_number_unique : (fault : SpeedFault) (r t : ℕ) → r ≡ speed_fault_number fault → t ≡ speed_fault_number fault → r ≡ t
speed_fault_number_unique fault = one_answer
