-- The two engines beside each other on one sheet (section 16.2).
use Rattle.std.specs.Prelude.{ℕ, ◌≤◌, ◌≡◌, ◌⊎◌, Bool, true, false, List, [], ◌∷◌, get_or, Result, Ok, Err}
use Rattle.laws.specs.Choice.{ifᵇ◌then◌else◌, ◌=ᵇ◌}
use Rattle.datum.specs.declared.Level.{Level}
use Rattle.sheet.specs.Sheets.{read_of}
use Rattle.sheet.specs.declared.Sheet.{Sheet}
use Rattle.depth.specs.Worksheet.{work_depth}
use Rattle.depth.specs.declared.Stretch.{Stretch}
use Rattle.engine.specs.Plain.{plain_depth}
use Rattle.engine.specs.Numbers.{plain_numbers}
use Rattle.design.specs.Design.{level_for, design_at}
use Rattle.design.specs.Answers.{stretch_of}
use Rattle.design.specs.declared.Reason.{Reason}
use Rattle.design.specs.declared.Reason.TheVariants.{NoSheet, NoShip, NoLevel, NoWidth, NoDepth, NoSpeed}
use Rattle.both.specs.declared.Both.{Both}
use Rattle.both.specs.declared.Verdict.{Verdict}
use Rattle.both.specs.declared.Verdict.TheVariants.{NotCome, Agreed, Differed}
use Rattle.sheet.specs.declared.ReadFault.{ReadFault}
use Rattle.engine.specs.declared.PlainFigures.{PlainFigures}
use Rattle.gauge.specs.declared.LevelFault.{LevelFault}
use Rattle.depth.specs.declared.DepthFault.{DepthFault}
use Rattle.design.specs.declared.Figures.{Figures}
use Rattle.depth.specs.declared.DepthFigures.{DepthFigures}

-- a sheet came to its depth: it is answered, or refused for its depth or for its speed, which is checked behind it
abbrev pub reason_came : Reason → Bool
reason_came (NoSheet fault) = false
reason_came NoShip = false
reason_came (NoLevel fault) = false
reason_came (NoWidth fault) = false
reason_came (NoDepth fault) = true
reason_came (NoSpeed fault) = true

abbrev pub came_to : Result Figures Reason → Bool
came_to (Ok f) = true
came_to (Err reason) = reason_came reason

-- the worksheet's depth, without how many columns it tried
abbrev pub uncounted : Result DepthFigures DepthFault → Result PlainFigures DepthFault
uncounted (Ok f) = Ok (record { cut = f.cut; sailing = f.sailing })
uncounted (Err fault) = Err fault

-- two depths have the same refusal, sailing depth and cut
unfoldable pub same_numbers : List ℕ → List ℕ → Bool
same_numbers worked plain =
    ifᵇ get_or worked 0 0 =ᵇ get_or plain 0 0
    then (ifᵇ get_or worked 1 0 =ᵇ get_or plain 1 0 then get_or worked 2 0 =ᵇ get_or plain 2 0 else false)
    else false

unfoldable pub verdict_of : List ℕ → List ℕ → Verdict
verdict_of worked plain = ifᵇ same_numbers worked plain then Agreed else Differed

-- refused before its depth: the plain engine's numbers are 0
abbrev pub not_come : Result Figures Reason → Both
not_come answer = record { answer = answer; plain = 0 ∷ 0 ∷ 0 ∷ []; verdict = NotCome }

-- the plain engine's numbers of a stretch, beside the worksheet's
unfoldable pub of_stretch : Result Figures Reason → Stretch → Both
of_stretch answer q =
    record {
      answer = answer;
      plain = plain_numbers (plain_depth q);
      verdict = verdict_of (plain_numbers (uncounted (work_depth q))) (plain_numbers (plain_depth q));
    }

-- the stretch of a sheet at its level, in the lanes of the lane rule
abbrev pub by_level : Result Figures Reason → Sheet → Result Level LevelFault → Both
by_level answer s (Ok level) = of_stretch answer (stretch_of s level)
by_level answer s (Err fault) = not_come answer

abbrev pub by_reading : Result Figures Reason → Result Sheet ReadFault → Result Level LevelFault → Both
by_reading answer (Ok s) read = by_level answer s (level_for s.level read)
by_reading answer (Err fault) read = not_come answer

-- the design of a sheet, and the plain engine beside it
abbrev pub beside : List ℕ → Result Level LevelFault → Result Figures Reason → Both
beside bytes read answer = ifᵇ came_to answer then by_reading answer (read_of bytes) read else not_come answer

unfoldable pub both_of : List ℕ → Result Level LevelFault → Both
both_of bytes read = beside bytes read (design_at bytes read)

-- the codes of the sheets that came to their depth: 0, no depth, and a speed that is not allowed
abbrev pub DepthReached : ℕ → Type 0
DepthReached code = (code ≡ 0) ⊎ ((13 ≤ code) × (code ≤ 17))

-- the sheet that was read, and the level that it is designed at
pub record DesignedAt (bytes : List ℕ) (read : Result Level LevelFault) : Type 0 where
  pub sheet : Sheet
  pub was_read : read_of bytes ≡ Ok sheet
  pub level : Level
  pub had : level_for sheet.level read ≡ Ok level

-- the stretch whose depth it came to
abbrev pub stretch_in : {bytes : List ℕ} {read : Result Level LevelFault} → DesignedAt bytes read → Stretch
stretch_in at = stretch_of at.sheet at.level
