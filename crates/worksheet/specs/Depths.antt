-- The depth: its allowances, each try, and the cut (section 15.7).
use Rattle.std.specs.Prelude.{ℕ, ◌+◌, List, [], ◌∷◌, ◌++◌, take, Result, Ok, Err}
use Rattle.laws.specs.Choice.{ifᵇ◌then◌else◌, ◌<ᵇ◌}
use Rattle.blanks.specs.declared.Figure.TheVariants.{Count, Signed}
use Rattle.datum.specs.Datum.{datum_depth}
use Rattle.datum.specs.declared.Level.{Level}
use Rattle.depth.specs.Depth.{allowances_of}
use Rattle.depth.specs.Worksheet.{endless, finding_of, worksheet_of, work_depth}
use Rattle.depth.specs.declared.DepthFault.{DepthFault}
use Rattle.depth.specs.declared.DepthFault.TheVariants.{NoSquatEntry, SiltOver, CutOver}
use Rattle.depth.specs.declared.Finding.TheVariants.{Stays, Moves}
use Rattle.depth.specs.declared.Stretch.{Stretch}
use Rattle.depth.specs.declared.Try.{Try}
use Rattle.depth.specs.declared.Worksheet.{Worksheet}
use Rattle.typed.specs.Rows.{bytes_of}
use Rattle.worksheet.specs.Filling.{with, column_letter}
use Rattle.depth.specs.declared.Finding.{Finding}
use Rattle.depth.specs.declared.DepthFigures.{DepthFigures}

-- the numbers of a try: which it is, its column, z3, s, z4, its figure, and the column that it falls in
unfoldable pub try_numbers : ℕ → Try → List ℕ
try_numbers number t =
    with "  %1   %0   %4  %5" (Count number ∷ column_letter t.column ∷ Count t.squat ∷ Count t.sailing.0 ∷ [])
    ++ with "  %5  %6  %0   " (Count t.silt ∷ Count t.figure.0 ∷ column_letter t.falls_in ∷ [])

-- a column whose silt is too much: over 120, or without end
unfoldable pub silt_line : ℕ → Try → List ℕ
silt_line number t =
    ifᵇ t.silt <ᵇ endless
    then try_numbers number t ++ bytes_of "unusable: silt over 120\n"
    else with "  %1   %0   %4  %5   none    none      unusable: silts up whole\n"
    (Count number ∷ column_letter t.column ∷ Count t.squat ∷ Count t.sailing.0 ∷ [])

-- a column that cannot be used, and why
abbrev pub unusable_line : DepthFault → ℕ → Try → ℕ → List ℕ
unusable_line NoSquatEntry number t knots =
    with "  %1   %0   none  unusable: no squat entry at %0 kn\n" (Count number ∷ column_letter t.column ∷ Count knots ∷ [])
unusable_line SiltOver number t knots = silt_line number t
unusable_line CutOver number t knots = try_numbers number t ++ bytes_of "unusable: cut over 3000\n"

-- the line of a try, by what it comes to
abbrev pub try_by : Result Finding DepthFault → ℕ → Try → ℕ → List ℕ
try_by (Ok Stays) number t knots = try_numbers number t ++ bytes_of "stays\n"
try_by (Ok Moves) number t knots = try_numbers number t ++ with "moves to %0\n" (column_letter t.falls_in ∷ [])
try_by (Err fault) number t knots = unusable_line fault number t knots

unfoldable pub try_line : ℕ → Try → ℕ → List ℕ
try_line number t knots = try_by (finding_of t) number t knots

-- the lines of tries, numbered on from one
unfoldable pub tries_from : ℕ → List Try → ℕ → List ℕ
tries_from number [] knots = []
tries_from number (t ∷ tries) knots = try_line number t knots ++ tries_from (number + 1) tries knots

-- each try of a worksheet, in their order
unfoldable pub tries_text : Worksheet → ℕ → List ℕ
tries_text w knots = tries_from 1 (take w.count w.tries) knots

-- the allowances, and the head of the tries
unfoldable pub depth_head : Stretch → List ℕ
depth_head q =
    with "DEPTH below the design level, cm\n  draft %0   N %0   z0 %0   z1 %0   z2 %0\n  try col   z3      s     z4  figure  falls in\n"
    (Count q.draft ∷ Count q.natural.0 ∷ Count (allowances_of q).list ∷ Count (allowances_of q).keel ∷ Count (allowances_of q).wave ∷ [])

-- the cut, the sailing depth and the datum depth, where there is a depth
abbrev pub cut_by : Result DepthFigures DepthFault → Level → List ℕ
cut_by (Ok f) level =
    with "  cut %0   sailing depth s %0   datum depth %0 below chart datum\n"
    (Count f.cut.0 ∷ Count f.sailing.0 ∷ Signed (datum_depth f.cut level).0 ∷ [])
cut_by (Err fault) level = []

unfoldable pub depth_part : Stretch → Level → List ℕ
depth_part q level = (depth_head q ++ tries_text (worksheet_of q) q.speed) ++ cut_by (work_depth q) level
