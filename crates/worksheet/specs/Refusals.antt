-- Why a sheet is turned away, and what it would need to pass (section 15.12).
use Rattle.std.specs.Prelude.{ℕ, ◌-◌, ◌*◌, ◌/◌, ◌%◌, List, [], ◌∷◌, ◌++◌, get_or, Option, Some, None}
use Rattle.laws.specs.Choice.{ifᵇ◌then◌else◌, ◌<ᵇ◌, ◌≤ᵇ◌, ◌=ᵇ◌}
use Rattle.blanks.specs.declared.Figure.TheVariants.{Count}
use Rattle.datum.specs.declared.CrossCurrent.{CrossCurrent}
use Rattle.depth.specs.Squat.{fastest_entry}
use Rattle.depth.specs.Worksheet.{endless, worksheet_of, blank_try}
use Rattle.depth.specs.declared.DepthFault.{DepthFault}
use Rattle.depth.specs.declared.DepthFault.TheVariants.{NoSquatEntry, SiltOver, CutOver}
use Rattle.depth.specs.declared.Stretch.{Stretch}
use Rattle.depth.specs.declared.Try.{Try}
use Rattle.depth.specs.declared.Worksheet.{Worksheet}
use Rattle.gauge.specs.declared.LevelFault.{LevelFault}
use Rattle.gauge.specs.declared.LevelFault.TheVariants.{WrongTable, TooFewReadings, RangeTooWide}
use Rattle.gauge.specs.declared.LevelSteps.{LevelSteps}
use Rattle.sheet.specs.Fields.{range_of}
use Rattle.sheet.specs.declared.Range.{Range}
use Rattle.sheet.specs.declared.ReadFault.{ReadFault}
use Rattle.sheet.specs.declared.ReadFault.TheVariants.{WrongLength, SpareBitSet, BadField}
use Rattle.speed.specs.Shown.{parts_shown}
use Rattle.speed.specs.declared.Section.{Section}
use Rattle.speed.specs.declared.SpeedFault.{SpeedFault}
use Rattle.speed.specs.declared.SpeedFault.TheVariants.{PointMissing, TooFast}
use Rattle.typed.specs.Lines.{line_text}
use Rattle.typed.specs.Rows.{bytes_of}
use Rattle.width.specs.declared.WidthFault.{WidthFault}
use Rattle.width.specs.declared.WidthFault.TheVariants.{BendTooTight, NoWidthEntry}
use Rattle.worksheet.specs.Filling.{with, column_letter}

-- the row of a field, by how many stand before it; the level's stands for two
unfoldable pub row_of_field : ℕ → ℕ
row_of_field field = ifᵇ field ≤ᵇ 26 then field - 1 else (ifᵇ field ≤ᵇ 28 then 26 else 27)

-- the least and the greatest figure of its row; a level's are those that are given
unfoldable pub values_of_field : ℕ → Range
values_of_field field = ifᵇ row_of_field field =ᵇ 26 then record { least = 1; greatest = 2001 } else range_of (field - 1)

-- what a field may hold
unfoldable pub may_hold : ℕ → List ℕ
may_hold field =
    ((line_text (row_of_field field) (values_of_field field).least ++ bytes_of " .. ")
    ++ line_text (row_of_field field) (values_of_field field).greatest)
    ++ bytes_of "\n"

-- what else makes a field bad
unfoldable pub field_note : ℕ → List ℕ
field_note field =
    ifᵇ field =ᵇ 26
    then bytes_of "  turn and radius are both 0, or neither\n"
    else (ifᵇ field =ᵇ 28 then bytes_of "  a level off the record has no figure\n" else [])

unfoldable pub bad_field : ℕ → List ℕ
bad_field field = (with "REFUSED 3: field %0 is bad\n  it may hold " (Count field ∷ []) ++ may_hold field) ++ field_note field

-- 1, 2 and 3, of so many bytes
abbrev pub no_sheet_text : ReadFault → ℕ → List ℕ
no_sheet_text WrongLength bytes = with "REFUSED 1: not 28 bytes\n  there are %0\n" (Count bytes ∷ [])
no_sheet_text SpareBitSet bytes = bytes_of "REFUSED 2: a spare bit is set\n  the last 7 bits of a sheet are 0\n"
no_sheet_text (BadField field) bytes = bad_field field

-- 18
unfoldable pub no_ship_text : ℕ → ℕ → List ℕ
no_ship_text length beam =
    with "REFUSED 18: the length is under three beams\n  length %0 cm, three beams %0 cm: they may have changed places\n"
    (Count length ∷ Count (3 * beam) ∷ [])

-- 4, 5 and 6
abbrev pub no_level_text : LevelFault → LevelSteps → List ℕ
no_level_text WrongTable steps = bytes_of "REFUSED 4: a slot of the record is over its limit\n  a slot holds at most 1000000 readings\n"
no_level_text TooFewReadings steps = with "REFUSED 5: under 26280 readings in the record\n  it has %0\n" (Count steps.readings ∷ [])
no_level_text RangeTooWide steps =
    with "REFUSED 6: the range D of the levels is over 140 cm\n  D is %0 cm; the procedure asks for an economic study\n"
    (Count steps.range ∷ [])

-- 7 and 8
abbrev pub no_width_text : WidthFault → ℕ → ℕ → CrossCurrent → ℕ → List ℕ
no_width_text BendTooTight least radius cross wave =
    with "REFUSED 7: the bend is too tight\n  the least radius is %0 m; the sheet has %0 m\n" (Count least ∷ Count radius ∷ [])
no_width_text NoWidthEntry least radius cross wave =
    with
    "REFUSED 8: no width entry\n  sheltered water has entries to 1.5 kn across and waves of 100 cm\n  the sheet has %0.%0 kn across and waves of %0 cm\n"
    (Count (cross.0 / 10) ∷ Count (cross.0 % 10) ∷ Count wave ∷ [])

-- the last try of a worksheet
unfoldable pub last_of : Worksheet → Try
last_of w = ifᵇ w.count ≤ᵇ 1 then get_or w.tries 0 blank_try else (ifᵇ w.count =ᵇ 2 then get_or w.tries 1 blank_try else get_or w.tries 2 blank_try)

-- 14: over 120, or without end
unfoldable pub silt_text : Try → ℕ → List ℕ
silt_text t filling =
    ifᵇ t.silt <ᵇ endless
    then with "REFUSED 14: no depth, as silt is over 120 cm\n  in column %0 it comes to %0 cm\n" (column_letter t.column ∷ Count t.silt ∷ [])
    else with "REFUSED 14: no depth, as all that is dug silts up\n  silting x interval is %0; under 100000 is needed\n" (Count filling ∷ [])

-- 13, 14 and 15, by the last try
abbrev pub no_cut_text : DepthFault → Try → ℕ → ℕ → List ℕ
no_cut_text NoSquatEntry t knots filling =
    with "REFUSED 13: no depth, as a column has no squat entry\n  column %0 has entries up to %0 kn; the sheet has %0 kn\n"
    (column_letter t.column ∷ Count (fastest_entry t.column) ∷ Count knots ∷ [])
no_cut_text SiltOver t knots filling = silt_text t filling
no_cut_text CutOver t knots filling =
    with "REFUSED 15: no depth, as a cut is over 3000 cm\n  in column %0 it comes to %0 cm\n" (column_letter t.column ∷ Count t.figure.0 ∷ [])

unfoldable pub no_depth_text : DepthFault → Stretch → List ℕ
no_depth_text fault q = no_cut_text fault (last_of (worksheet_of q)) q.speed (q.silting * q.interval)

-- 17
abbrev pub too_fast_text : Option ℕ → ℕ → List ℕ
too_fast_text (Some hundredths) knots =
    with "REFUSED 17: the ship is too fast\n  nine tenths of the critical speed: %0.%0%0 kn; the sheet has %0 kn\n"
    (Count (hundredths / 100) ∷ Count (hundredths / 10 % 10) ∷ Count (hundredths % 10) ∷ Count knots ∷ [])
too_fast_text None knots = []

-- 16 and 17
abbrev pub no_speed_text : SpeedFault → Section → ℕ → List ℕ
no_speed_text PointMissing q knots =
    with
    "REFUSED 16: the critical speed needs a blank or a point off its table\n  the section has width %0 cm, slope 1/%0, depth %0 cm\n  the table has 50 to 250 m, 1/4 to 1/12 and 4 to 16 m\n"
    (Count q.width ∷ Count q.slope ∷ Count q.cut.0 ∷ [])
no_speed_text TooFast q knots = too_fast_text (parts_shown q).fastest knots
