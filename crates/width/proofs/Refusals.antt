-- Each answer tells whether its row holds: entries are missing exactly past the last band of sheltered water, and a bend is too tight by its tests.
use Rattle.std.specs.Prelude.{Option, Result, Ok, Err}
use mathlib.Core.Path.{◌≡◌, refl}
use mathlib.Core.Bool.{Bool, true, false}
use mathlib.Core.Logic.{◌⊎◌, inl, inr}
use Prim.Native.Nat.{ℕ, ◌*◌, ◌≤◌, ◌<◌}
use native.Mathlib.Nat.{mul-le-mul_left}
use native.Mathlib.Omega.{arith}
use borrow.Author.Tests.{eqb-true, eqb-false, eq-eqb, ltb-true, ltb-false}
use lib.Dec.{ltb, eqb}
use Rattle.laws.specs.Choice.{ifᵇ◌then◌else◌}
use Rattle.laws.specs.Rows.{Exactly}
use Rattle.laws.proofs.Rows.{Told, stop, past, Call, exactly}
use Rattle.datum.specs.declared.CrossCurrent.{CrossCurrent}
use Rattle.lanes.specs.declared.Lanes.{Lanes}
use Rattle.width.specs.Bands.{water_of, speed_band_of, cross_entry, wave_entry, entries_by, entries_of}
use Rattle.width.specs.Bends.{least_lengths, bend_of, widening_figure}
use Rattle.width.specs.Refusals.{bend_number, entries_number, TightBend, NoWidthEntry, bend_rows, entries_rows}
use Rattle.width.specs.declared.Water.{Water}
use Rattle.width.specs.declared.Water.TheVariants.{Open, Sheltered}
use Rattle.width.specs.declared.SpeedBand.{SpeedBand}
use Rattle.width.specs.declared.Entries.{Entries}
use Rattle.width.proofs.bends.Ways.{straight, tight, widened, wide}
use Rattle.width.proofs.bands.Missing.{Past, Reads, there, missing, cross_reads, wave_reads}
use Rattle.width.specs.declared.WidthFault.TheVariants.{BendTooTight, NoWidthEntry as EntryFault}
use Rattle.width.specs.declared.WidthFault.{WidthFault}

-- the water of a sheet
past_sheltered : (water last figure : ℕ) → Past (water_of water) last figure → (water ≡ 1) × (last < figure)
unfolding water_of
past_sheltered water last figure = go (eqb water 1) refl
  where
    go : (t : Bool) → eqb water 1 ≡ t → Past (ifᵇ t then Sheltered else Open) last figure → (water ≡ 1) × (last < figure)
    go true p over = (eqb-true water 1 p, over)
    go false p over = absurd over

sheltered_past : (water last figure : ℕ) → water ≡ 1 → last < figure → Past (water_of water) last figure
unfolding water_of
sheltered_past water last figure is over = rw (eq-eqb water 1 is) over

-- what is told of entries: those that are found are some
abbrev pub entering : Call (Result Entries WidthFault)
entering = record { number = entries_number; answered = λ found. (e : Entries) × (found ≡ Ok e); refused = λ found. found ≡ Err EntryFault }

module _ (water speed : ℕ) (cross : CrossCurrent) (wave : ℕ) where
  abbrev column : Water
  column = water_of water

  abbrev band : SpeedBand
  band = speed_band_of speed

  from_reads : (c w : Option ℕ) → Reads (Past column 15 cross.0) c → Reads (Past column 100 wave) w
      → Told entering (entries_rows water cross wave) (entries_by column band c w)
  from_reads c w (there n within) (there m low) = past none (refl, (_, refl))
    where
      none : ¬ NoWidthEntry water cross wave
      none row = go row.beyond
        where
          go : (15 < cross.0) ⊎ (100 < wave) → ⊥
          go (inl over) = within (sheltered_past water 15 cross.0 row.sheltered over)
          go (inr over) = low (sheltered_past water 100 wave row.sheltered over)
  from_reads c w (there n within) (missing over) =
      let row = past_sheltered water 100 wave over in stop (record { sheltered = row.0; beyond = inr row.1 }) (refl, refl)
  from_reads c w (missing over) reads =
      let row = past_sheltered water 15 cross.0 over in stop (record { sheltered = row.0; beyond = inl row.1 }) (refl, refl)

  pub entries_told : Told entering (entries_rows water cross wave) (entries_of water speed cross wave)
  unfolding entries_of
  entries_told =
      from_reads (cross_entry column band cross) (wave_entry column band wave) (cross_reads column band cross) (wave_reads column band wave)

  pub entries_exactly : Exactly (entries_rows water cross wave) (entries_number (entries_of water speed cross wave))
  entries_exactly = exactly entering (entries_rows water cross wave) tt (entries_of water speed cross wave) entries_told

-- what is told of a bend: one that is answered has its widening
abbrev pub bends : Call (Result ℕ WidthFault)
bends = record { number = bend_number; answered = λ b. b ≡ Ok (widening_figure b); refused = λ b. b ≡ (Err BendTooTight) }

module _ (turn radius length knots : ℕ) (lanes : Lanes) where
  abbrev BendTold : Result ℕ WidthFault → Type 0
  BendTold = Told bends (bend_rows turn radius length)

  -- by the three tests of its definition
  pub bend_told : BendTold (bend_of turn radius length knots lanes)
  bend_told = go (eqb turn 0) (ltb (100 * radius) (least_lengths turn * length)) (ltb (100 * radius) (10 * length)) refl refl refl
    where
      go : (t u v : Bool) → eqb turn 0 ≡ t → ltb (100 * radius) (least_lengths turn * length) ≡ u → ltb (100 * radius) (10 * length) ≡ v
          → BendTold (bend_of turn radius length knots lanes)
      go true u v p q r =
          let e = eqb-true turn 0 p in
          rw (← straight turn radius length knots lanes e) (past (λ row. row.bent e) (refl, refl))
      go false true v p q r =
          let bent = eqb-false turn 0 p in
          let under = ltb-true (100 * radius) (least_lengths turn * length) q in
          rw (← tight turn radius length knots lanes bent (least_lengths turn) refl under) (stop (record { bent = bent; under = under }) (refl, refl))
      go false false true p q r =
          let reach = ltb-false (100 * radius) (least_lengths turn * length) q in
          rw (← widened turn radius length knots lanes (eqb-false turn 0 p) (least_lengths turn) refl reach (ltb-true (100 * radius) (10 * length) r) _ refl)
          (past (λ row. omega (arith, row.under)) (refl, refl))
      go false false false p q r =
          let reach = ltb-false (100 * radius) (least_lengths turn * length) q in
          rw (← wide turn radius length knots lanes (eqb-false turn 0 p) (least_lengths turn) refl reach (ltb-false (100 * radius) (10 * length) r))
          (past (λ row. omega (arith, row.under)) (refl, refl))

  pub bend_exactly : Exactly (bend_rows turn radius length) (bend_number (bend_of turn radius length knots lanes))
  bend_exactly = exactly bends (bend_rows turn radius length) tt (bend_of turn radius length knots lanes) bend_told

-- a row that turns a sheet away turns a harder one away: a longer ship, a stronger cross current, a higher wave
pub tight_too : (turn radius length length' : ℕ) → length ≤ length' → TightBend turn radius length → TightBend turn radius length'
tight_too turn radius length length' longer row =
    let reach : least_lengths turn * length ≤ least_lengths turn * length' = mul-le-mul_left (least_lengths turn) longer in
    record { bent = row.bent; under = omega (arith, row.under) }

pub missing_too : (water : ℕ) (cross cross' : CrossCurrent) (wave wave' : ℕ) → cross.0 ≤ cross'.0 → wave ≤ wave'
    → NoWidthEntry water cross wave → NoWidthEntry water cross' wave'
missing_too water cross cross' wave wave' stronger higher row = record { sheltered = row.sheltered; beyond = go row.beyond }
  where
    go : (15 < cross.0) ⊎ (100 < wave) → (15 < cross'.0) ⊎ (100 < wave')
    go (inl over) = inl (omega arith)
    go (inr over) = inr (omega arith)
