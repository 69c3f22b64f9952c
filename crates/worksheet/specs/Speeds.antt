-- The critical speed with its parts, where the side slope asks for it (section 15.10).
use Rattle.std.specs.Prelude.{ℕ, ◌/◌, ◌%◌, List, [], ◌∷◌, ◌++◌, Option, Some, None}
use Rattle.laws.specs.Choice.{ifᵇ◌then◌else◌, ◌=ᵇ◌}
use Rattle.blanks.specs.declared.Figure.TheVariants.{Count}
use Rattle.speed.specs.Shown.{parts_shown}
use Rattle.speed.specs.declared.Section.{Section}
use Rattle.speed.specs.declared.SpeedParts.{SpeedParts}
use Rattle.worksheet.specs.Filling.{with, count_or_none}

-- nine tenths of the critical speed, where there is one
abbrev pub fastest_text : Option ℕ → ℕ → List ℕ
fastest_text (Some hundredths) knots =
    with "  nine tenths of it, rounded down: %0.%0%0 kn; the ship: %0 kn\n"
    (Count (hundredths / 100) ∷ Count (hundredths / 10 % 10) ∷ Count (hundredths % 10) ∷ Count knots ∷ [])
fastest_text None knots = []

-- V', V'', h and the joined speed
unfoldable pub parts_text : ℕ → ℕ → SpeedParts → List ℕ
parts_text slope cut p =
    with "SPEED at side slopes of 1/%0\n  V' %0 mm/s   V'' %0 mm/s   h %0 of %0 cm   critical %0 mm/s\n"
    (Count slope ∷ count_or_none p.shallow ∷ count_or_none p.full ∷ Count p.dug ∷ Count cut ∷ count_or_none p.critical ∷ [])

unfoldable pub speed_part : Section → ℕ → List ℕ
speed_part q knots =
    ifᵇ q.slope =ᵇ 0 then [] else parts_text q.slope q.cut.0 (parts_shown q) ++ fastest_text (parts_shown q).fastest knots
