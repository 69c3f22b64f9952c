-- What a line brings (section 14.3).
use Rattle.std.proofs.Common.{lit≤}
use Rattle.std.specs.Prelude.{ℕ, ◌+◌, ◌-◌, ◌≤◌, List, set, Result, Ok, Err, Option, Some, None}
use Rattle.laws.specs.Choice.{ifᵇ◌then◌else◌, ◌<ᵇ◌, ◌=ᵇ◌}
use Rattle.sheet.specs.Fields.{standing_of, count as field_count}
use Rattle.sheet.specs.declared.FieldFault.{FieldFault}
use Rattle.sheet.specs.declared.FieldFault.TheVariants.{Outside, Disagrees as DisagreesThere}
use Rattle.typed.specs.Rows.{count, level_row}
use Rattle.typed.specs.Reading.{entry_of, row_named}
use Rattle.typed.specs.declared.EntryFault.TheVariants.{NoName as NameMissing, NoFigure as FigureMissing, NoUnit as UnitMissing}
use Rattle.texts.specs.Cutting.{begins_sheet, passed_over}
use Rattle.texts.specs.declared.Event.{Event}
use Rattle.texts.specs.declared.Event.TheVariants.{Sheet, Fault}
use Rattle.texts.specs.declared.LineFault.{LineFault}
use Rattle.texts.specs.declared.LineFault.TheVariants.{NoSheet, Missing, NoName, Twice, Misplaced, NoFigure, NoUnit, OutOfRange, Disagrees}
use Rattle.texts.specs.declared.Stage.{Stage}
use Rattle.texts.specs.declared.Stage.TheVariants.{Between, InRow, Skipping}
use Rattle.texts.specs.declared.steps.Step.{Step}
use Rattle.typed.specs.declared.EntryFault.{EntryFault}

-- the number of a fault, without its T
abbrev pub fault_number : LineFault → ℕ
fault_number NoSheet = 1
fault_number Missing = 2
fault_number NoName = 3
fault_number Twice = 4
fault_number Misplaced = 5
fault_number NoFigure = 6
fault_number NoUnit = 7
fault_number OutOfRange = 8
fault_number Disagrees = 9

-- 0 is no fault's number
pub fault_number_some : (fault : LineFault) → 1 ≤ fault_number fault
fault_number_some NoSheet = lit≤ tt
fault_number_some Missing = lit≤ tt
fault_number_some NoName = lit≤ tt
fault_number_some Twice = lit≤ tt
fault_number_some Misplaced = lit≤ tt
fault_number_some NoFigure = lit≤ tt
fault_number_some NoUnit = lit≤ tt
fault_number_some OutOfRange = lit≤ tt
fault_number_some Disagrees = lit≤ tt

-- the figures with that of a row; the level's stands for fields 27 and 28
unfoldable pub stored : List ℕ → ℕ → ℕ → List ℕ
stored figures k n =
    ifᵇ k <ᵇ level_row
    then set figures k n
    else
    (ifᵇ k =ᵇ level_row
    then set (set figures 26 (ifᵇ n =ᵇ 0 then 0 else 1)) 27 (n - 1)
    else (ifᵇ k =ᵇ 27 then set figures 28 n else figures))

-- the field that a row's figure is tested in
unfoldable pub field_of : ℕ → ℕ
field_of k = ifᵇ k <ᵇ level_row then k else (ifᵇ k <ᵇ count then k + 1 else field_count)

abbrev pub step : Stage → List ℕ → Option Event → Step
step stage figures event = record { stage = stage; figures = figures; event = event }

-- a line is turned away, and those behind it are passed over
abbrev pub refused_by : List ℕ → LineFault → ℕ → Step
refused_by figures fault row = step Skipping figures (Some (Fault fault row))

-- how a figure is wrong in its field, as it is told
abbrev pub told_of_field : FieldFault → LineFault
told_of_field Outside = OutOfRange
told_of_field DisagreesThere = Disagrees

-- a figure was read: it is out of its range, it disagrees with another, the next row follows, or the sheet is whole
abbrev pub accepted_by : Result (Unit {0}) FieldFault → List ℕ → ℕ → Step
accepted_by (Err Outside) figures k = refused_by figures OutOfRange k
accepted_by (Err DisagreesThere) figures k = refused_by figures Disagrees k
accepted_by (Ok tt) figures k = ifᵇ k <ᵇ 27 then step (InRow (k + 1)) figures None else step Between figures (Some Sheet)

unfoldable pub accepted_in : List ℕ → ℕ → Step
accepted_in figures k = accepted_by (standing_of figures (field_of k)) figures k

-- a line without the row's name: no row has its name, one before, or one behind
abbrev pub name_fault_by : Option ℕ → ℕ → LineFault
name_fault_by None k = NoName
name_fault_by (Some named) k = ifᵇ named <ᵇ k then Twice else Misplaced

unfoldable pub name_fault : ℕ → List ℕ → LineFault
name_fault k line = name_fault_by (row_named line) k

-- why a line has no figure, as it is told
abbrev pub told_of : EntryFault → ℕ → List ℕ → LineFault
told_of NameMissing k line = name_fault k line
told_of FigureMissing k line = NoFigure
told_of UnitMissing k line = NoUnit

-- a line in the place of the row after the first k
abbrev pub row_step_by : Result ℕ EntryFault → List ℕ → ℕ → List ℕ → Step
row_step_by (Ok n) figures k line = accepted_in (stored figures k n) k
row_step_by (Err NameMissing) figures k line = refused_by figures (name_fault k line) k
row_step_by (Err FigureMissing) figures k line = refused_by figures NoFigure k
row_step_by (Err UnitMissing) figures k line = refused_by figures NoUnit k

unfoldable pub row_step : List ℕ → ℕ → List ℕ → Step
row_step figures k line = row_step_by (entry_of k line) figures k line

-- what is missing where a sheet ends at a stage
abbrev pub missing_at : Stage → Option Event
missing_at Between = None
missing_at (InRow k) = Some (Fault Missing k)
missing_at Skipping = None

-- a line that begins a sheet
unfoldable pub begin_step : Stage → List ℕ → Step
begin_step stage figures = step (InRow 0) figures (missing_at stage)

-- a line that begins none
abbrev pub other_step : Stage → List ℕ → List ℕ → Step
other_step Between figures line = refused_by figures NoSheet count
other_step Skipping figures line = step Skipping figures None
other_step (InRow k) figures line = row_step figures k line

-- a line that is not passed over
unfoldable pub step_of : Stage → List ℕ → List ℕ → Step
step_of stage figures line = ifᵇ begins_sheet line then begin_step stage figures else other_step stage figures line

-- any line
unfoldable pub line_step : Stage → List ℕ → List ℕ → Step
line_step stage figures line = ifᵇ passed_over line then step stage figures None else step_of stage figures line
