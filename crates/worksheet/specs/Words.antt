-- The words of the bands of a width (section 15.8), in the order of the annex.
use Rattle.std.specs.Prelude.{ℕ, ◌*◌, List, ◌++◌, take, replicate}
use Prim.Native.String.{String}
use Rattle.laws.specs.Choice.{ifᵇ◌then◌else◌, ◌<ᵇ◌, ◌≤ᵇ◌, ◌=ᵇ◌}
use Rattle.datum.specs.declared.AlongCurrent.{AlongCurrent}
use Rattle.datum.specs.declared.BelowLevel.{BelowLevel}
use Rattle.datum.specs.declared.CrossCurrent.{CrossCurrent}
use Rattle.lanes.specs.declared.Lanes.{Lanes}
use Rattle.lanes.specs.declared.Lanes.TheVariants.{One, Two}
use Rattle.typed.specs.Rows.{bytes_of}
use Rattle.width.specs.declared.SpeedBand.{SpeedBand}
use Rattle.width.specs.declared.SpeedBand.TheVariants.{Moderate, Slow}
use Rattle.width.specs.declared.Water.{Water}
use Rattle.width.specs.declared.Water.TheVariants.{Open, Sheltered}

-- words in a place of 24 bytes: what is shorter ends in spaces
abbrev pub words : String → List ℕ
words text = take 24 (bytes_of text ++ replicate 24 32)

unfoldable pub handling_words : ℕ → List ℕ
handling_words handling =
    ifᵇ handling =ᵇ 0 then words "good handling" else (ifᵇ handling =ᵇ 1 then words "fair handling" else words "poor handling")

unfoldable pub wind_words : ℕ → List ℕ
wind_words wind = ifᵇ wind <ᵇ 15 then words "under 15 kn" else (ifᵇ wind ≤ᵇ 33 then words "15 to 33 kn" else words "over 33 kn")

unfoldable pub cross_words : CrossCurrent → List ℕ
cross_words cross =
    ifᵇ cross.0 <ᵇ 2
    then words "under 0.2 kn"
    else (ifᵇ cross.0 ≤ᵇ 5
    then words "0.2 to 0.5 kn"
    else (ifᵇ cross.0 ≤ᵇ 15 then words "over 0.5 to 1.5 kn" else words "over 1.5 kn"))

unfoldable pub along_words : AlongCurrent → List ℕ
along_words along = ifᵇ along.0 <ᵇ 15 then words "under 1.5 kn" else (ifᵇ along.0 ≤ᵇ 30 then words "1.5 to 3 kn" else words "over 3 kn")

unfoldable pub wave_words : ℕ → List ℕ
wave_words wave = ifᵇ wave ≤ᵇ 100 then words "to 1 m" else (ifᵇ wave ≤ᵇ 300 then words "over 1 to 3 m" else words "over 3 m")

unfoldable pub aids_words : ℕ → List ℕ
aids_words aids =
    ifᵇ aids =ᵇ 0
    then words "complete"
    else (ifᵇ aids =ᵇ 1 then words "good" else (ifᵇ aids =ᵇ 2 then words "middle" else words "poor"))

unfoldable pub bed_words : ℕ → BelowLevel → ℕ → List ℕ
bed_words draft s bottom =
    ifᵇ 3 * draft ≤ᵇ 2 * s.0
    then words "s from 1.5 drafts on"
    else (ifᵇ bottom =ᵇ 0 then words "soft" else (ifᵇ bottom =ᵇ 1 then words "hard, smooth" else words "hard, rough"))

-- where s is under one and a half drafts
abbrev pub shallow_words : Water → ℕ → BelowLevel → List ℕ
shallow_words Open draft s = ifᵇ 5 * draft ≤ᵇ 4 * s.0 then words "s from 1.25 drafts on" else words "s under 1.25 drafts"
shallow_words Sheltered draft s = ifᵇ 23 * draft ≤ᵇ 20 * s.0 then words "s from 1.15 drafts on" else words "s under 1.15 drafts"

unfoldable pub depth_words : Water → ℕ → BelowLevel → List ℕ
depth_words water draft s = ifᵇ 3 * draft ≤ᵇ 2 * s.0 then words "s from 1.5 drafts on" else shallow_words water draft s

unfoldable pub cargo_words : ℕ → List ℕ
cargo_words cargo = ifᵇ cargo =ᵇ 0 then words "low danger" else (ifᵇ cargo =ᵇ 1 then words "middle danger" else words "high danger")

unfoldable pub banks_words : ℕ → ℕ → List ℕ
banks_words left right =
    ifᵇ left =ᵇ 0
    then (ifᵇ right =ᵇ 0 then words "sloping, sloping" else words "sloping, steep")
    else (ifᵇ right =ᵇ 0 then words "steep, sloping" else words "steep, steep")

abbrev pub passing_words : SpeedBand → List ℕ
passing_words Moderate = words "moderate speed"
passing_words Slow = words "slow speed"

unfoldable pub traffic_words : ℕ → List ℕ
traffic_words ships =
    ifᵇ ships ≤ᵇ 2400 then words "to 1 ship an hour" else (ifᵇ ships ≤ᵇ 7200 then words "over 1 to 3 an hour" else words "over 3 an hour")

-- how often the lane and its additions count
abbrev pub times_words : Lanes → List ℕ
times_words One = words "once"
times_words Two = words "twice"
