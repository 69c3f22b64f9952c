-- The message of a fault (section 14.4).
use Rattle.std.specs.Prelude.{ℕ, ◌-◌, min, List, [], ◌∷◌, ◌++◌, map, length, take, drop}
use Rattle.laws.specs.Choice.{ifᵇ◌then◌else◌, ◌≤ᵇ◌, ◌<ᵇ◌, ◌=ᵇ◌}
use Rattle.lines.specs.Decimals.{count_text}
use Rattle.typed.specs.Rows.{bytes_of}
use Rattle.typed.specs.Lines.{expected_text}
use Rattle.texts.specs.Cutting.{newline}
use Rattle.texts.specs.declared.LineFault.{LineFault}
use Rattle.texts.specs.declared.LineFault.TheVariants.{NoSheet, Missing, NoName, Twice, Misplaced, NoFigure, NoUnit, OutOfRange, Disagrees}
use Rattle.texts.specs.declared.Place.{Place}

-- the bytes that a message is given
abbrev pub message_bytes : ℕ
message_bytes = 1024

-- the number and the words of a reason
abbrev pub reason_text : LineFault → List ℕ
reason_text NoSheet = bytes_of ": T1 stands in no sheet: "
reason_text Missing = bytes_of ": T2 a row is missing: "
reason_text NoName = bytes_of ": T3 no such name: "
reason_text Twice = bytes_of ": T4 stands twice: "
reason_text Misplaced = bytes_of ": T5 misplaced: "
reason_text NoFigure = bytes_of ": T6 no such figure: "
reason_text NoUnit = bytes_of ": T7 no such unit: "
reason_text OutOfRange = bytes_of ": T8 outside its range: "
reason_text Disagrees = bytes_of ": T9 turn and radius disagree: "

-- a byte as it is shown: `?` for one under 32 and for 127
unfoldable pub shown : ℕ → ℕ
shown b = ifᵇ b <ᵇ 32 then 63 else (ifᵇ b =ᵇ 127 then 63 else b)

-- how many bytes of a line are shown
abbrev pub seen : ℕ
seen = 60

-- a line's first bytes between quotes, with `..` behind where it has more
abbrev pub seen_text : List ℕ → List ℕ
seen_text line = (bytes_of "\"" ++ map shown (take (min seen (length line)) line)) ++ bytes_of "\""

unfoldable pub quoted_text : List ℕ → List ℕ
quoted_text line = ifᵇ length line ≤ᵇ seen then seen_text line else seen_text line ++ bytes_of ".."

-- what stood at a place of a text
unfoldable pub stood_text : List ℕ → Place → List ℕ
stood_text text place =
    ifᵇ place.ended then bytes_of "the text ends" else quoted_text (take (place.end - place.start) (drop place.start text))

-- what was expected there
abbrev pub expected_for : LineFault → ℕ → List ℕ
expected_for NoSheet row = bytes_of "sheet"
expected_for Missing row = expected_text row
expected_for NoName row = expected_text row
expected_for Twice row = expected_text row
expected_for Misplaced row = expected_text row
expected_for NoFigure row = expected_text row
expected_for NoUnit row = expected_text row
expected_for OutOfRange row = expected_text row
expected_for Disagrees row = expected_text row

unfoldable pub message_text : List ℕ → LineFault → ℕ → Place → List ℕ
message_text text fault row place =
    (((((bytes_of "line " ++ count_text place.line) ++ reason_text fault) ++ stood_text text place) ++ bytes_of "; expected: ")
    ++ expected_for fault row)
    ++ newline ∷ []
