-- The sheet that bytes are read as, and the bytes that a sheet is written in (sections 1.3 and 1.4).
use Rattle.std.specs.Prelude.{ℕ, List, [], ◌∷◌, ◌++◌, ◌≡◌, ℤ, pos, negsuc, length, drop, Result, Ok, Err}
use Rattle.datum.specs.Datum.{below_chart}
use Rattle.datum.specs.declared.BelowChart.{BelowChart}
use Rattle.laws.specs.Choice.{ifᵇ◌then◌else◌, ◌<ᵇ◌, ◌=ᵇ◌}
use Rattle.sheet.specs.Fields.{count, nth, field, first_bad}
use Rattle.sheet.specs.Packing.{size, groups_of, bytes_of}
use Rattle.sheet.specs.declared.LevelSource.{LevelSource}
use Rattle.sheet.specs.declared.LevelSource.TheVariants.{FromRecord, Given}
use Rattle.sheet.specs.declared.Sheet.{Sheet}
use Rattle.sheet.specs.declared.ReadFault.TheVariants.{WrongLength, SpareBitSet, BadField}
use Rattle.sheet.specs.declared.WriteFault.TheVariants.{PlaceTooSmall, BadField as BadFieldToWrite}
use Rattle.sheet.specs.declared.ReadFault.{ReadFault}
use Rattle.sheet.specs.declared.WriteFault.{WriteFault}

-- fields 27 and 28: a level off the record, or given with its figure
unfoldable pub level_source_of : ℕ → ℕ → LevelSource
level_source_of source level = ifᵇ source =ᵇ 0 then FromRecord else Given (record { 0 = level })

-- a sheet of figures, with its bed and its level
abbrev pub sheet_with : List ℕ → BelowChart → LevelSource → Sheet
sheet_with figures bed level =
    record {
      deadweight = field figures 1;
      draft = field figures 2;
      length = field figures 3;
      beam = field figures 4;
      speed = field figures 5;
      bed = bed;
      soil = field figures 7;
      allowance = field figures 8;
      silting = field figures 9;
      interval = field figures 10;
      lanes = field figures 11;
      channel = field figures 12;
      ships = field figures 13;
      water = field figures 14;
      handling = field figures 15;
      wind = field figures 16;
      cross = record { 0 = field figures 17 };
      along = record { 0 = field figures 18 };
      wave = field figures 19;
      aids = field figures 20;
      bottom = field figures 21;
      cargo = field figures 22;
      left = field figures 23;
      right = field figures 24;
      turn = field figures 25;
      radius = field figures 26;
      level = level;
      slope = field figures 29;
    }

unfoldable pub sheet_of : List ℕ → Sheet
sheet_of figures = sheet_with figures (below_chart (pos (field figures 6))) (level_source_of (field figures 27) (field figures 28))

-- what stands for a figure that no field holds
abbrev pub no_figure : ℕ
no_figure = 4294967295

-- field 6 of a bed: none where it lies above chart datum
abbrev pub bed_figure_of : ℤ → ℕ
bed_figure_of (pos cm) = cm
bed_figure_of (negsuc cm) = no_figure

unfoldable pub bed_figure : BelowChart → ℕ
bed_figure bed = bed_figure_of bed.0

-- fields 27 and 28 of a level
abbrev pub source_figure : LevelSource → ℕ
source_figure FromRecord = 0
source_figure (Given level) = 1

abbrev pub level_figure : LevelSource → ℕ
level_figure FromRecord = 0
level_figure (Given level) = level.0

-- the figures of a sheet, in the order of its fields
unfoldable pub figures_of : Sheet → List ℕ
figures_of s =
    s.deadweight ∷ s.draft ∷ s.length ∷ s.beam ∷ s.speed ∷ bed_figure s.bed ∷ s.soil ∷ s.allowance ∷ s.silting
    ∷ s.interval ∷ s.lanes ∷ s.channel ∷ s.ships ∷ s.water ∷ s.handling ∷ s.wind ∷ s.cross.0 ∷ s.along.0 ∷ s.wave
    ∷ s.aids ∷ s.bottom ∷ s.cargo ∷ s.left ∷ s.right ∷ s.turn ∷ s.radius ∷ source_figure s.level
    ∷ level_figure s.level ∷ s.slope ∷ []

-- the sheet of figures, or the first field that is bad
unfoldable pub sheet_from : List ℕ → Result Sheet ReadFault
sheet_from figures = ifᵇ first_bad figures =ᵇ 0 then Ok (sheet_of figures) else Err (BadField (first_bad figures))

-- what fields and spare bits are read as
unfoldable pub read_groups : List ℕ → Result Sheet ReadFault
read_groups figures = ifᵇ nth figures count =ᵇ 0 then sheet_from figures else Err SpareBitSet

-- what any string of bytes is read as
unfoldable pub read_of : List ℕ → Result Sheet ReadFault
read_of bytes = ifᵇ length bytes =ᵇ size then read_groups (groups_of bytes) else Err WrongLength

-- what writing a sheet into a place answers
unfoldable pub written_of : Sheet → List ℕ → Result (Unit {0}) WriteFault
written_of s place =
    ifᵇ length place <ᵇ size
    then Err PlaceTooSmall
    else (ifᵇ first_bad (figures_of s) =ᵇ 0 then (Ok tt) else Err (BadFieldToWrite (first_bad (figures_of s))))

-- what the place then holds: the sheet's bytes first, or what it held
unfoldable pub place_of : Sheet → List ℕ → List ℕ
place_of s place =
    ifᵇ length place <ᵇ size
    then place
    else (ifᵇ first_bad (figures_of s) =ᵇ 0 then bytes_of (figures_of s) ++ drop size place else place)

-- a sheet whose every field is in its range and whose pairs agree
unfoldable pub Valid : Sheet → Type 0
Valid s = first_bad (figures_of s) ≡ 0

-- the bytes are the writing of a valid sheet
pub record Written (bytes : List ℕ) (s : Sheet) : Type 0 where
  pub valid : Valid s
  pub writing : bytes ≡ bytes_of (figures_of s)
