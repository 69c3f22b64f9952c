-- The design level: given, or how it is read off the record (section 15.5).
use Rattle.std.specs.Prelude.{ℕ, List, [], ◌∷◌, ◌++◌, Result, Ok, Err}
use Rattle.blanks.specs.declared.Figure.TheVariants.{Count}
use Rattle.gauge.specs.declared.LevelFault.{LevelFault}
use Rattle.gauge.specs.declared.LevelFault.TheVariants.{WrongTable, TooFewReadings, RangeTooWide}
use Rattle.gauge.specs.declared.LevelSteps.{LevelSteps}
use Rattle.sheet.specs.declared.LevelSource.{LevelSource}
use Rattle.sheet.specs.declared.LevelSource.TheVariants.{FromRecord, Given}
use Rattle.typed.specs.Rows.{bytes_of}
use Rattle.worksheet.specs.Filling.{with, level_figure}
use Rattle.datum.specs.declared.Level.{Level}

-- how far the level is read where there is none
abbrev pub no_level_text : LevelFault → LevelSteps → List ℕ
no_level_text WrongTable steps = bytes_of "  no readings are taken\n"
no_level_text TooFewReadings steps = with "  readings %0\n" (Count steps.readings ∷ [])
no_level_text RangeTooWide steps =
    with "  readings %0   H50 %0   H100 %0   D %0\n"
    (Count steps.readings ∷ level_figure steps.half ∷ level_figure steps.whole ∷ Count steps.range ∷ [])

-- the steps to a level
abbrev pub steps_text : Result Level LevelFault → LevelSteps → List ℕ
steps_text (Ok level) steps =
    with "  readings %0   H50 %0   H100 %0   D %0   D takes H%0\n  design level %0 cm\n"
    (Count steps.readings
    ∷ level_figure steps.half
    ∷ level_figure steps.whole
    ∷ Count steps.range
    ∷ Count steps.frequency
    ∷ level_figure level
    ∷ [])
steps_text (Err fault) steps = no_level_text fault steps

unfoldable pub record_part : LevelSteps → List ℕ
record_part steps = bytes_of "LEVEL above chart datum, off the record\n" ++ steps_text steps.read steps

abbrev pub level_part : LevelSource → LevelSteps → List ℕ
level_part (Given level) steps = with "LEVEL above chart datum, given on the sheet\n  design level %0 cm\n" (level_figure level ∷ [])
level_part FromRecord steps = record_part steps
