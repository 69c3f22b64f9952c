-- What the width and the bends promise (sections 5, 6 and 8), each cited from its proof. `entries_of`, `items_of`, `lane_and_added`, `tenths_of`,
-- `width_of`, `least_radius` and `bend_of` are what the calls of like names ensure, and `width_fault_number` is what a fault's `number` ensures.
use Rattle.std.specs.Prelude.{Result, Ok, Err}
use mathlib.Core.Path.{◌≡◌}
use mathlib.Core.Logic.{◌↔◌, ◌≢◌}
use Prim.Native.Nat.{ℕ, ◌+◌, ◌*◌, ◌^◌, ◌≤◌, ◌<◌}
use Rattle.laws.specs.Extremes.{Least}
use Rattle.laws.specs.Rows.{Exactly}
use Rattle.laws.proofs.Unique.{one_answer}
use Rattle.datum.specs.declared.CrossCurrent.{CrossCurrent}
use Rattle.lanes.specs.Lanes.{lane_count}
use Rattle.lanes.specs.declared.Lanes.{Lanes}
use Rattle.lanes.specs.declared.Lanes.TheVariants.{One, Two}
use Rattle.width.specs.declared.Water.{Water}
use Rattle.width.specs.Bands.{water_of, entries_of}
use Rattle.width.specs.Width.{items_of, lane_and_added, tenths_of, width_of, width_figure}
use Rattle.width.specs.Bends.{least_lengths, least_radius, bend_of, widening_figure}
use Rattle.width.specs.Refusals.{width_fault_number, bend_number, entries_number, bend_rows, entries_rows}
use Rattle.width.specs.Comparing.{Harder, NoNarrower}
use Rattle.width.specs.Starred.{cases, figures}
use Rattle.width.specs.declared.Stretch.{Stretch}
use Rattle.width.specs.declared.Entries.{Entries}
use Rattle.width.specs.declared.Items.{Items}
use Rattle.width.specs.declared.WidthFault.{WidthFault}
use Rattle.width.proofs.Totals.{one_lane_total, two_lanes_total}
use Rattle.width.proofs.bends.Ways.{straight_always}
use Rattle.width.proofs.Growth.{never_narrower, figure_rises}
use Rattle.width.proofs.Refusals.{entries_exactly, bend_exactly}
use Rattle.width.proofs.Meaning.{rounded_exactly, none_from_ten, widening_exactly, tight_exactly}
use Rattle.width.proofs.Sizes.{width_figure_small, widening_small}
use Rattle.width.proofs.Cases.{computed}
use Rattle.width.specs.declared.WidthFault.TheVariants.{BendTooTight}

-- One lane: lane + W + banks. Two: twice lane and W, banks, passing, traffic.
pub one_lane : (items : Items) → tenths_of One items ≡ lane_and_added items + items.banks
one_lane = one_lane_total

pub two_lanes : (items : Items) → tenths_of Two items ≡ 2 * lane_and_added items + items.banks + items.passing + items.traffic
two_lanes = two_lanes_total

-- Times beam / 10, rounded up once: ten times the width is the least multiple of ten that reaches the tenths times the beam.
pub rounded_once : (s : Stretch) (e : Entries) (cm : ℕ)
    → (width_of s e ≡ cm) ↔ Least (λ (w : ℕ). tenths_of s.lanes (items_of s e) * s.beam ≤ w * 10) cm
rounded_once = rounded_exactly

-- 8 exactly when there is no width entry, which is a cross current over 15 or a wave over 100 in sheltered water; every other stretch has its
-- entries, and with them its width. They are found without the depth.
pub number_8 : (water speed : ℕ) (cross : CrossCurrent) (wave : ℕ) → Exactly (entries_rows water cross wave) (entries_number (entries_of water speed cross wave))
number_8 = entries_exactly

-- A greater beam, wind, cross current, along current or wave, all else equal, never narrows the width and never turns 8 into an answer.
-- The bend and its widening are worked from none of the five.
pub harder_never_narrower : (easy hard : Stretch) (water speed : ℕ) (cross cross' : CrossCurrent) (wave wave' : ℕ) → Harder easy hard
    → cross.0 ≤ cross'.0 → wave ≤ wave' → NoNarrower easy hard (entries_of water speed cross wave) (entries_of water speed cross' wave')
harder_never_narrower = never_narrower

-- So where the harder has entries its figure is no less.
pub figure_no_less : (easy hard : Stretch) (a b : Result Entries WidthFault) → NoNarrower easy hard a b → entries_number b ≡ 0
    → width_figure easy a ≤ width_figure hard b
figure_no_less = figure_rises

-- A straight has no least radius and no widening.
pub straight_is_free : (radius length knots : ℕ) (lanes : Lanes) → bend_of 0 radius length knots lanes ≡ Ok 0
straight_is_free = straight_always

-- 7 exactly when the bend is too tight, which is a turn with a radius under the least; every other bend has its widening.
pub number_7 : (turn radius length knots : ℕ) (lanes : Lanes) → Exactly (bend_rows turn radius length) (bend_number (bend_of turn radius length knots lanes))
number_7 = bend_exactly

-- So the least radius in whole metres is the least that is not too tight.
pub tight_under_least_radius : (turn radius length knots : ℕ) (lanes : Lanes) → turn ≢ 0
    → (bend_of turn radius length knots lanes ≡ (Err BendTooTight)) ↔ (radius < least_radius turn length)
tight_under_least_radius = tight_exactly

-- From 10 lengths on it is 0.
pub from_ten_lengths : (turn radius length knots : ℕ) (lanes : Lanes) → 10 * length ≤ 100 * radius → bend_of turn radius length knots lanes ≡ Ok 0
from_ten_lengths = none_from_ten

-- A bend under 10 lengths adds 9144 × turn × knots² × length² × lanes / (2,446,000,000 × radius) cm, rounded up.
pub under_ten_lengths : (turn radius length knots : ℕ) (lanes : Lanes) → turn ≢ 0 → least_lengths turn * length ≤ 100 * radius
    → 100 * radius < 10 * length → (cm : ℕ)
    → (bend_of turn radius length knots lanes ≡ Ok cm)
    ↔ Least (λ (w : ℕ). 9144 * turn * (knots * knots) * (length * length) * lane_count lanes ≤ w * (2446000000 * radius)) cm
under_ten_lengths = widening_exactly

-- Both figures are under 2 ^ 31, for numbers of the widths that a sheet's fields are held in.
pub width_fits : (s : Stretch) → s.beam < 2 ^ 16 → (water speed : ℕ) (cross : CrossCurrent) (wave : ℕ)
    → width_figure s (entries_of water speed cross wave) < 2 ^ 31
width_fits = width_figure_small

pub widening_fits : (turn radius length knots : ℕ) (lanes : Lanes) → turn < 2 ^ 8 → length < 2 ^ 16 → knots < 2 ^ 8
    → widening_figure (bend_of turn radius length knots lanes) < 2 ^ 31
widening_fits = widening_small

-- The starred cases have their figures.
pub starred : cases ≡ figures
starred = computed

-- One answer of each call.
pub entries_unique : (water speed : ℕ) (cross : CrossCurrent) (wave : ℕ) (r t : Result Entries WidthFault)
    → r ≡ entries_of water speed cross wave → t ≡ entries_of water speed cross wave → r ≡ t
entries_unique water speed cross wave = one_answer

pub water_unique : (water : ℕ) (r t : Water) → r ≡ water_of water → t ≡ water_of water → r ≡ t
water_unique water = one_answer

pub items_unique : (s : Stretch) (e : Entries) (r t : Items) → r ≡ items_of s e → t ≡ items_of s e → r ≡ t
items_unique s e = one_answer

pub lane_and_added_unique : (items : Items) (r t : ℕ) → r ≡ lane_and_added items → t ≡ lane_and_added items → r ≡ t
lane_and_added_unique items = one_answer

pub tenths_unique : (lanes : Lanes) (items : Items) (r t : ℕ) → r ≡ tenths_of lanes items → t ≡ tenths_of lanes items → r ≡ t
tenths_unique lanes items = one_answer

pub width_unique : (s : Stretch) (e : Entries) (r t : ℕ) → r ≡ width_of s e → t ≡ width_of s e → r ≡ t
width_unique s e = one_answer

pub least_radius_unique : (turn length r t : ℕ) → r ≡ least_radius turn length → t ≡ least_radius turn length → r ≡ t
least_radius_unique turn length = one_answer

pub bend_unique : (turn radius length knots : ℕ) (lanes : Lanes) (r t : Result ℕ WidthFault)
    → r ≡ bend_of turn radius length knots lanes → t ≡ bend_of turn radius length knots lanes → r ≡ t
bend_unique turn radius length knots lanes = one_answer

pub width_fault_number_unique : (fault : WidthFault) (r t : ℕ) → r ≡ width_fault_number fault → t ≡ width_fault_number fault → r ≡ t
width_fault_number_unique fault = one_answer
