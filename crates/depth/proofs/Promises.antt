-- What the depth promises, in the definition's order. Each proof cites the one that does the work.
use Rattle.std.specs.Prelude.{Result, Ok, Err, min}
use mathlib.Core.Path.{◌≡◌, refl, ap, ◌∙◌, subst}
use mathlib.Core.Logic.{◌↔◌}
use mathlib.Core.List.{List, map}
use Prim.Native.Nat.{ℕ, ◌+◌, ◌-◌, ◌*◌, ◌^◌, ◌≤◌, ◌<◌}
use native.Mathlib.Omega.{arith}
use lib.ListN.{length, get_or, take}
use Rattle.laws.specs.Rounding.{up}
use Rattle.laws.specs.Extremes.{Least}
use Rattle.laws.specs.Rows.{Exactly}
use Rattle.laws.proofs.Unique.{one_answer}
use Rattle.lanes.specs.declared.Lanes.{Lanes}
use Rattle.lanes.specs.declared.Lanes.TheVariants.{Two}
use Rattle.depth.specs.declared.Stretch.{Stretch}
use Rattle.depth.specs.declared.Column.{Column}
use Rattle.depth.specs.declared.Column.TheVariants.{A}
use Rattle.depth.specs.declared.Try.{Try}
use Rattle.depth.specs.declared.Allowances.{Allowances}
use Rattle.depth.specs.declared.DepthFault.{DepthFault}
use Rattle.depth.specs.declared.Worksheet.{Worksheet}
use Rattle.depth.specs.declared.DepthFigures.{DepthFigures}
use Rattle.depth.specs.Interval.{interval_of}
use Rattle.depth.specs.Squat.{none, column_number, squat_reading, squat_of, fastest_entry}
use Rattle.depth.specs.Depth.{allowances_of, z3, natural_of, filling, sailing_with, sailing, z4, own_column, Meets, AsDefined, Ranges, depth_fault_number, depth_number, NoDepthNumber}
use Rattle.depth.specs.Worksheet.{endless, column_try, blank_try, finding_of, tries, worksheet_of, answer_of, work_depth, Forward, Followed, Counted}
use Rattle.depth.specs.Reasons.{IsFigure, SiltsUp, Usable, Comes, FirstUnusable, Reasoned, depth_rows}
use Rattle.depth.specs.Harder.{Harder, Deeper, NeverCured}
use Rattle.depth.specs.Starred.{cases, figures}
use Rattle.depth.proofs.squat.Columns.{two_most}
use Rattle.depth.proofs.squat.Table.{lanes_columns_speeds, fastest_exactly}
use Rattle.depth.proofs.walks.Tries.{tries_count}
use Rattle.depth.proofs.walks.Filled.{work_of_last, last_line_is, columns_are}
use Rattle.depth.proofs.walks.Following.{one_following}
use Rattle.depth.proofs.cuts.Settling as settling
use Rattle.depth.proofs.cuts.LeastCut as least_cut
use Rattle.depth.proofs.cuts.Reasons as reasons
use Rattle.depth.proofs.cuts.Silted as silted
use Rattle.depth.proofs.Refusals.{depth_exactly}
use Rattle.depth.proofs.cuts.Demand as demand
use Rattle.depth.proofs.Cases.{computed}
use Rattle.depth.specs.declared.Finding.{Finding}

-- The squat never falls from column A to B to C, from lone to passing, or with the speed, from the table's first speed on; none counts as greatest.
pub squat_never_falls : (lanes lanes' : Lanes) (c c' : Column) (speed speed' : ℕ) → squat_reading lanes ≤ squat_reading lanes'
    → column_number c ≤ column_number c' → 2 ≤ speed → speed ≤ speed' → squat_of lanes c speed ≤ squat_of lanes' c' speed'
squat_never_falls = lanes_columns_speeds

-- No lanes read a greater squat than two.
pub two_lanes_read_most : (lanes : Lanes) → squat_reading lanes ≤ squat_reading Two
two_lanes_read_most = two_most

-- From the table's first speed on, a column has an entry exactly when the speed is at most its fastest, one lane or two.
pub entry_to_the_fastest : (lanes : Lanes) (c : Column) (speed : ℕ) → 2 ≤ speed → (squat_of lanes c speed < none) ↔ (speed ≤ fastest_entry c)
entry_to_the_fastest = fastest_exactly

-- The sailing depth is the draft, the allowances that are shown and the squat.
pub sailing_of_allowances : (q : Stretch) (squat : ℕ)
    → sailing_with q squat ≡ q.draft + (allowances_of q).list + (allowances_of q).keel + (allowances_of q).wave + squat
unfolding sailing_with allowances_of
sailing_of_allowances q squat = refl

-- Unless every cut silts up whole, the line of a column shows its figure, the least d that is at least s + z4 of d itself, and that z4.
pub figure_shown : (q : Stretch) (c : Column) → ¬ SiltsUp q c
    → IsFigure q c (column_try q c).figure.0 × ((column_try q c).silt ≡ z4 q c (column_try q c).figure.0)
unfolding column_try
figure_shown q c stays = (settling.figure_is q c stays, settling.silt_is q c stays)

-- Nothing else is the figure.
pub no_other_figure : (q : Stretch) (c : Column) (d : ℕ) → IsFigure q c d → (column_try q c).figure.0 ≡ d
unfolding column_try
no_other_figure q c d f = (settling.line_figure q c d f).0

-- It is s and its own silt.
pub figure_of_its_silt : (q : Stretch) (c : Column) (d : ℕ) → IsFigure q c d → d ≡ sailing q c + z4 q c d
figure_of_its_silt = settling.figure_sum

-- It is computed and not searched: N and the dug part of s over the part that the silt leaves.
pub figure_computed : (q : Stretch) (c : Column) → natural_of q < sailing q c → filling q < 100000
    → (column_try q c).figure.0 ≡ natural_of q + up (100000 * (sailing q c - natural_of q)) (100000 - filling q)
unfolding column_try
figure_computed = silted.figure_computed

-- A column has no figure exactly when s exceeds N and P × interval is 100,000 or more. For an s under 2^19, as every stretch of the program has,
-- its silt is marked endless exactly then.
pub no_figure_exactly : (q : Stretch) (c : Column) → ((d : ℕ) → ¬ IsFigure q c d) ↔ SiltsUp q c
no_figure_exactly = settling.no_figure_exactly

pub endless_exactly : (q : Stretch) (c : Column) → sailing q c < 2 ^ 19 → ((column_try q c).silt ≡ endless) ↔ SiltsUp q c
unfolding column_try
endless_exactly = silted.endless_exactly

-- Such a product gives 14 whenever the s of column A, which has an entry, exceeds N. Where that s does not, it is the cut, whatever the silting.
pub silts_up_is_14 : (q : Stretch) → z3 q A < none → SiltsUp q A → depth_number (work_depth q) ≡ 14
silts_up_is_14 = silted.silts_up_is_14

pub not_dug_cut : (q : Stretch) → z3 q A < none → sailing q A ≤ natural_of q → sailing q A ≤ 3000 → Least (Meets q) (sailing q A)
not_dug_cut = silted.not_dug_cut

-- The cut is the least d from 1 to 3,000 with an entry at its column, z4 of d itself at most 120 and d at least s + z4; the s of that column is the
-- sailing depth.
pub depth_is_as_defined : (q : Stretch) → AsDefined q (work_depth q)
depth_is_as_defined = least_cut.work_as_defined

-- Nothing else is that depth, with the worksheet's count and its reason.
pub no_other_depth : (q : Stretch) (r : Result DepthFigures DepthFault) → AsDefined q r → Counted q r → Reasoned q r → r ≡ work_depth q
no_other_depth = reasons.no_other

-- 13 no squat entry, 14 silt over 120, 15 cut over 3,000: given exactly when the first column that the worksheet cannot use fails by this test
-- and by none before it.
pub number_exactly : (q : Stretch) (fault : DepthFault) → (depth_number (work_depth q) ≡ depth_fault_number fault) ↔ FirstUnusable q fault
number_exactly = reasons.number_exactly

-- From column A on no figure falls back: a column that is come to and can be used has its figure there or in a later one.
pub never_falls_back : (q : Stretch) (c : Column) (d : ℕ) → Comes q A c → Usable q c d → column_number c ≤ column_number (own_column q d)
never_falls_back = reasons.never_back

-- So a number is given exactly when its row holds and none checked before it does, and every other depth is answered.
pub numbers_in_order : (q : Stretch) → Exactly (depth_rows q) (depth_number (work_depth q))
numbers_in_order = depth_exactly

-- A stretch with a first column that the worksheet cannot use has no cut as defined.
pub unusable_none : (q : Stretch) (fault : DepthFault) → FirstUnusable q fault → (d : ℕ) → Meets q d → ⊥
unusable_none = reasons.no_meeting

-- One of the three is given exactly when there is no cut as defined, and the depth is answered exactly when there is one.
pub no_depth_exactly : (q : Stretch) → NoDepthNumber (depth_number (work_depth q)) ↔ ((d : ℕ) → Meets q d → ⊥)
no_depth_exactly = reasons.no_depth_exactly

pub answered_exactly : (q : Stretch) → (depth_number (work_depth q) ≡ 0) ↔ ((d : ℕ) × Meets q d)
answered_exactly = least_cut.zero_exactly

-- The worksheet begins in column A and moves to the column its figure falls in until it stays; no other tries do.
pub worksheet_followed : (q : Stretch) → Followed (column_try q) A (tries q)
worksheet_followed = least_cut.tries_followed

pub no_other_worksheet : (q : Stretch) (l : List Try) → Followed (column_try q) A l → l ≡ tries q
no_other_worksheet q l f = one_following (column_try q) A l (tries q) f (least_cut.tries_followed q)

-- It never moves back.
pub worksheet_goes_forward : (q : Stretch) → Forward (tries q)
worksheet_goes_forward = least_cut.tries_forward

-- The number of columns tried is 1 to 3.
pub columns_one_to_three : (q : Stretch) → (1 ≤ length (tries q)) × (length (tries q) ≤ 3)
columns_one_to_three = tries_count

-- It is reported, and equals the worksheet's.
pub columns_counted : (q : Stretch) → Counted q (work_depth q)
columns_counted = least_cut.work_counted

pub columns_of_the_worksheet : (q : Stretch) (f : DepthFigures) → work_depth q ≡ Ok f → f.columns ≡ (worksheet_of q).count
columns_of_the_worksheet q f e = columns_are q f (subst (Counted q) e (least_cut.work_counted q))

-- The depth is what the last line of the worksheet gives, and the count is where it stands.
pub depth_of_last_try : (q : Stretch)
    → work_depth q ≡ answer_of (get_or (worksheet_of q).tries ((worksheet_of q).count - 1) blank_try) (worksheet_of q).count
depth_of_last_try = work_of_last

-- Where there is no depth, the last line of the worksheet is the try that fails, and shows the reason.
pub failing_try_shown : (q : Stretch) (fault : DepthFault) → work_depth q ≡ Err fault
    → finding_of (get_or (worksheet_of q).tries ((worksheet_of q).count - 1) blank_try) ≡ Err fault
failing_try_shown q fault e = ap finding_of (last_line_is q) ∙ reasons.last_shows q fault e

-- The figures are within these ranges.
pub figures_in_range : (q : Stretch) (f : DepthFigures) → work_depth q ≡ Ok f → Ranges f
figures_in_range = least_cut.figures_ranges

-- Demand 3, centimetre for centimetre: of two stretches over the same natural depth, where both are answered, the one that is as hard or harder has a cut
-- that is deeper by at least what its draft and wave allowance together are greater by; so it is never shallower.
pub deeper_by : (q q' : Stretch) → Harder q q' → (cm : ℕ) → q.draft + q.allowance + cm ≤ q'.draft + q'.allowance → Deeper cm (work_depth q) (work_depth q')
deeper_by = demand.work_deeper

pub never_shallower : (q q' : Stretch) → Harder q q' → Deeper 0 (work_depth q) (work_depth q')
never_shallower q q' h = deeper_by q q' h 0 (omega arith)

-- What meets the definition for it meets it for the easier stretch too, as many centimetres higher, and at the same cut.
pub meets_higher : (q q' : Stretch) → Harder q q' → (cm : ℕ) → q.draft + q.allowance + cm ≤ q'.draft + q'.allowance → 2 ≤ q.speed
    → (d : ℕ) → Meets q' d → (cm ≤ d) × Meets q (d - cm)
meets_higher = demand.meets_higher

pub meets_the_easier : (q q' : Stretch) → Harder q q' → 2 ≤ q.speed → (d : ℕ) → Meets q' d → Meets q d
meets_the_easier = demand.meets_too

-- Nor is a refusal, any of the three, ever cured by it; it may become another of them. A speed under 2 has no entry and a faster one may have, so the easier speed is at least 2, as on every sheet.
pub never_cured : (q q' : Stretch) → Harder q q' → 2 ≤ q.speed → NeverCured (work_depth q) (work_depth q')
never_cured q q' h from = demand.work_never_cured q q' h 0 (omega arith) from

-- The starred cases have their figures.
pub starred : map work_depth cases ≡ figures
starred = computed

-- Each call has one result.
pub one_interval : (code r s : ℕ) → r ≡ interval_of code → s ≡ interval_of code → r ≡ s
one_interval code = one_answer

pub depth_fault_number_unique : (fault : DepthFault) (r s : ℕ) → r ≡ depth_fault_number fault → s ≡ depth_fault_number fault → r ≡ s
depth_fault_number_unique fault = one_answer

pub one_squat : (lanes : Lanes) (c : Column) (speed r s : ℕ) → r ≡ squat_of lanes c speed → s ≡ squat_of lanes c speed → r ≡ s
one_squat lanes c speed = one_answer

pub one_fastest_entry : (c : Column) (r s : ℕ) → r ≡ fastest_entry c → s ≡ fastest_entry c → r ≡ s
one_fastest_entry c = one_answer

pub allowances_unique : (q : Stretch) (r s : Allowances) → r ≡ allowances_of q → s ≡ allowances_of q → r ≡ s
allowances_unique q = one_answer

pub one_finding : (t : Try) (r s : Result Finding DepthFault) → r ≡ finding_of t → s ≡ finding_of t → r ≡ s
one_finding t = one_answer

pub one_worksheet : (q : Stretch) (r s : Worksheet) → r ≡ worksheet_of q → s ≡ worksheet_of q → r ≡ s
one_worksheet q = one_answer

pub last_unique : (w : Worksheet) (r s : Try) → r ≡ get_or w.tries (min w.count 3 - 1) blank_try → s ≡ get_or w.tries (min w.count 3 - 1) blank_try → r ≡ s
last_unique w = one_answer

pub tries_unique : (w : Worksheet) (r s : List Try) → r ≡ take w.count w.tries → s ≡ take w.count w.tries → r ≡ s
tries_unique w = one_answer

pub one_depth : (q : Stretch) (r s : Result DepthFigures DepthFault) → r ≡ work_depth q → s ≡ work_depth q → r ≡ s
one_depth q = one_answer
