-- The lane, what is added to it, the banks, passing and traffic, in tenths of the beam (sections 5.1 to 5.3).
-- Where a sheet's field has fewer values than its number could have, the last named value stands for those past it.
use Rattle.std.specs.Prelude.{ℕ, ◌+◌, ◌*◌}
use Rattle.laws.specs.Choice.{ifᵇ◌then◌else◌, ◌≤ᵇ◌, ◌<ᵇ◌, ◌=ᵇ◌}
use Rattle.datum.specs.declared.BelowLevel.{BelowLevel}
use Rattle.width.specs.declared.Water.{Water}
use Rattle.width.specs.declared.SpeedBand.{SpeedBand}
use Rattle.width.specs.Bands.{by◌in-open◌in-sheltered◌, for◌moderate◌slow◌}

-- lane 13, 15, 18 by handling: 0 good, 1 fair, else poor
unfoldable pub lane_item : ℕ → ℕ
lane_item handling = ifᵇ handling =ᵇ 0 then 13 else (ifᵇ handling =ᵇ 1 then 15 else 18)

-- wind under 15: 0; 15–33: 4/5; over 33: 8/10
unfoldable pub wind_item : SpeedBand → ℕ → ℕ
wind_item band wind =
    ifᵇ wind <ᵇ 15 then 0 else (ifᵇ wind ≤ᵇ 33 then (for band moderate 4 slow 5) else (for band moderate 8 slow 10))

-- aids 0, 1, 2, 5
unfoldable pub aids_item : ℕ → ℕ
aids_item aids = ifᵇ aids =ᵇ 0 then 0 else (ifᵇ aids =ᵇ 1 then 1 else (ifᵇ aids =ᵇ 2 then 2 else 5))

-- bed, if 2s < 3 drafts: 1, 1, 2; else 0
unfoldable pub bed_item : ℕ → BelowLevel → ℕ → ℕ
bed_item draft s bottom =
    ifᵇ 3 * draft ≤ᵇ 2 * s.0 then 0 else (ifᵇ bottom =ᵇ 0 then 1 else (ifᵇ bottom =ᵇ 1 then 1 else 2))

-- depth: 0 if 2s ≥ 3 drafts; open 1 if 4s ≥ 5 drafts, else 2; sheltered 2 if 20s ≥ 23 drafts, else 4
unfoldable pub depth_item : Water → ℕ → BelowLevel → ℕ
depth_item water draft s =
    ifᵇ 3 * draft ≤ᵇ 2 * s.0 then 0 else
    (by water in-open (ifᵇ 5 * draft ≤ᵇ 4 * s.0 then 1 else 2) in-sheltered (ifᵇ 23 * draft ≤ᵇ 20 * s.0 then 2 else 4))

-- cargo: open 0, 5, 10; sheltered 0, 4, 8
unfoldable pub cargo_item : Water → ℕ → ℕ
cargo_item water cargo =
    ifᵇ cargo =ᵇ 0 then 0 else (ifᵇ cargo =ᵇ 1 then (by water in-open 5 in-sheltered 4) else (by water in-open 10 in-sheltered 8))

-- each bank: sloping 5/3, steep 10/5; 0 is sloping, else steep
unfoldable pub bank_item : SpeedBand → ℕ → ℕ
bank_item band bank = ifᵇ bank =ᵇ 0 then (for band moderate 5 slow 3) else (for band moderate 10 slow 5)

unfoldable pub banks_item : SpeedBand → ℕ → ℕ → ℕ
banks_item band left right = bank_item band left + bank_item band right

-- passing: open 16/12, sheltered 14/10
unfoldable pub passing_item : Water → SpeedBand → ℕ
passing_item water band = by water in-open (for band moderate 16 slow 12) in-sheltered (for band moderate 14 slow 10)

-- traffic: ships to 2,400: 0; to 7,200: 2; over: open 5, sheltered 4
unfoldable pub traffic_item : Water → ℕ → ℕ
traffic_item water ships = ifᵇ ships ≤ᵇ 2400 then 0 else (ifᵇ ships ≤ᵇ 7200 then 2 else (by water in-open 5 in-sheltered 4))
