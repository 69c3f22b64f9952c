-- Waters and speed bands, and the bands of currents and waves (sections 5.1 and 5.2).
use Rattle.std.specs.Prelude.{ℕ, Option, Some, None, Result, Ok, Err}
use Rattle.laws.specs.Choice.{ifᵇ◌then◌else◌, ◌≤ᵇ◌, ◌<ᵇ◌, ◌=ᵇ◌}
use Rattle.datum.specs.declared.CrossCurrent.{CrossCurrent}
use Rattle.datum.specs.declared.AlongCurrent.{AlongCurrent}
use Rattle.width.specs.declared.Water.{Water}
use Rattle.width.specs.declared.Water.TheVariants.{Open, Sheltered}
use Rattle.width.specs.declared.SpeedBand.{SpeedBand}
use Rattle.width.specs.declared.SpeedBand.TheVariants.{Moderate, Slow}
use Rattle.width.specs.declared.Entries.{Entries}
use Rattle.width.specs.declared.WidthFault.{WidthFault}
use Rattle.width.specs.declared.WidthFault.TheVariants.{NoWidthEntry}

-- field 14: 1 is sheltered; any other number, of which a sheet has only 0, is open
unfoldable pub water_of : ℕ → Water
water_of water = ifᵇ water =ᵇ 1 then Sheltered else Open

-- speed 8–12 is moderate, under 8 slow; over 12, which no sheet has, is moderate too
unfoldable pub speed_band_of : ℕ → SpeedBand
speed_band_of speed = ifᵇ speed <ᵇ 8 then Slow else Moderate

infix 2 by◌in-open◌in-sheltered◌ for◌moderate◌slow◌
-- what open water takes, and what sheltered water
abbrev pub by◌in-open◌in-sheltered◌ {ℓ} : {A : Type ℓ} → Water → A → A → A
by◌in-open◌in-sheltered◌ Open a b = a
by◌in-open◌in-sheltered◌ Sheltered a b = b

-- written moderate/slow
abbrev pub for◌moderate◌slow◌ {ℓ} : {A : Type ℓ} → SpeedBand → A → A → A
for◌moderate◌slow◌ Moderate a b = a
for◌moderate◌slow◌ Slow a b = b

-- cross current under 2: 0; to 5: open 2/3, sheltered 1/2; to 15: open 7/10, sheltered 5/8; over 15: open 10/13, sheltered no entry
unfoldable pub cross_entry : Water → SpeedBand → CrossCurrent → Option ℕ
cross_entry water band cross =
    ifᵇ cross.0 <ᵇ 2 then Some 0 else
    (ifᵇ cross.0 ≤ᵇ 5 then Some (by water in-open (for band moderate 2 slow 3) in-sheltered (for band moderate 1 slow 2)) else
    (ifᵇ cross.0 ≤ᵇ 15 then Some (by water in-open (for band moderate 7 slow 10) in-sheltered (for band moderate 5 slow 8)) else
    (by water in-open (Some (for band moderate 10 slow 13)) in-sheltered None)))

-- along current under 15: 0; to 30: 1/2; over: 2/4
unfoldable pub along_item : SpeedBand → AlongCurrent → ℕ
along_item band along =
    ifᵇ along.0 <ᵇ 15 then 0 else (ifᵇ along.0 ≤ᵇ 30 then (for band moderate 1 slow 2) else (for band moderate 2 slow 4))

-- wave to 100: 0; to 300: open 10/5; over: open 22/15; sheltered over 100: no entry
unfoldable pub wave_entry : Water → SpeedBand → ℕ → Option ℕ
wave_entry water band wave =
    ifᵇ wave ≤ᵇ 100 then Some 0 else
    (ifᵇ wave ≤ᵇ 300 then (by water in-open (Some (for band moderate 10 slow 5)) in-sheltered None) else
    (by water in-open (Some (for band moderate 22 slow 15)) in-sheltered None))

-- both entries are needed: the cross current's and the wave's
abbrev pub entries_by : Water → SpeedBand → Option ℕ → Option ℕ → Result Entries WidthFault
entries_by water band (Some cross) (Some wave) = Ok (record { water = water; band = band; cross = cross; wave = wave })
entries_by water band (Some cross) None = (Err NoWidthEntry)
entries_by water band None wave = (Err NoWidthEntry)

-- in a water and a speed band
abbrev pub entries_in : Water → SpeedBand → CrossCurrent → ℕ → Result Entries WidthFault
entries_in water band cross wave = entries_by water band (cross_entry water band cross) (wave_entry water band wave)

-- of a sheet's water, speed, cross current and wave
unfoldable pub entries_of : ℕ → ℕ → CrossCurrent → ℕ → Result Entries WidthFault
entries_of water speed cross wave = entries_in (water_of water) (speed_band_of speed) cross wave
