-- A greater beam, wind, current or wave never narrows a width and never finds entries that were missing:
-- each band rises, so the items do, the total does, and its product with the beam.
use Rattle.std.specs.Prelude.{Option, Some, Result}
use mathlib.Core.Path.{◌≡◌, subst⁻¹}
use Prim.Native.Nat.{ℕ, ◌≤◌}
use native.Mathlib.Nat.{mul-le-mul}
use native.Mathlib.Omega.{arith}
use Rattle.laws.proofs.Rounding.{up_mono}
use Rattle.lanes.specs.declared.Lanes.{Lanes}
use Rattle.lanes.specs.declared.Lanes.TheVariants.{One, Two}
use Rattle.datum.specs.declared.CrossCurrent.{CrossCurrent}
use Rattle.datum.specs.declared.AlongCurrent.{AlongCurrent}
use Rattle.width.specs.Bands.{water_of, speed_band_of, cross_entry, wave_entry, entries_by, entries_of}
use Rattle.width.specs.Width.{items_of, tenths_of, width_of, width_figure}
use Rattle.width.specs.Refusals.{entries_number}
use Rattle.width.specs.Comparing.{changed, Harder, NoNarrower, as_wide, refused}
use Rattle.width.specs.declared.Water.{Water}
use Rattle.width.specs.declared.SpeedBand.{SpeedBand}
use Rattle.width.specs.declared.Stretch.{Stretch}
use Rattle.width.specs.declared.Entries.{Entries}
use Rattle.width.proofs.bands.Rising.{Upto, tenths, blank, wind_rises, along_rises, cross_rises, wave_rises}
use Rattle.width.specs.declared.WidthFault.{WidthFault}

module _ (s : Stretch) (beam wind : ℕ) (along : AlongCurrent) (b : s.beam ≤ beam) (w : s.wind ≤ wind) (a : s.along.0 ≤ along.0)
    (water : Water) (band : SpeedBand) where
  abbrev hard : Stretch
  hard = changed s beam wind along

  abbrev with : ℕ → ℕ → Entries
  with cross wave = record { water = water; band = band; cross = cross; wave = wave }

  tenths_rise : (lanes : Lanes) (n m n' m' : ℕ) → n ≤ n' → m ≤ m'
      → tenths_of lanes (items_of s (with n m)) ≤ tenths_of lanes (items_of hard (with n' m'))
  unfolding tenths_of items_of
  tenths_rise One n m n' m' p q = omega (arith, (wind_rises band).rises s.wind wind w, (along_rises band).rises s.along.0 along.0 a)
  tenths_rise Two n m n' m' p q = omega (arith, (wind_rises band).rises s.wind wind w, (along_rises band).rises s.along.0 along.0 a)

  width_rises : (n m n' m' : ℕ) → n ≤ n' → m ≤ m' → width_of s (with n m) ≤ width_of hard (with n' m')
  unfolding width_of
  width_rises n m n' m' p q = up_mono 10 (omega arith) (mul-le-mul (tenths_rise s.lanes n m n' m' p q) b)

  from_entries : (e e' h h' : Option ℕ) → Upto e e' → Upto h h' → NoNarrower s hard (entries_by water band e h) (entries_by water band e' h')
  from_entries (Some n) (Some n') (Some m) (Some m') (tenths p) (tenths q) = as_wide (width_rises n m n' m' p q)
  from_entries e e' h h' (tenths p) blank = refused
  from_entries e e' h h' blank q = refused

pub never_narrower : (easy hard : Stretch) (water speed : ℕ) (cross cross' : CrossCurrent) (wave wave' : ℕ) → Harder easy hard
    → cross.0 ≤ cross'.0 → wave ≤ wave' → NoNarrower easy hard (entries_of water speed cross wave) (entries_of water speed cross' wave')
unfolding entries_of
never_narrower easy hard water speed cross cross' wave wave' h c v =
    let column = water_of water in
    let band = speed_band_of speed in
    subst⁻¹ (λ (s : Stretch). NoNarrower easy s (entries_of water speed cross wave) (entries_of water speed cross' wave')) h.equal
    (from_entries easy hard.beam hard.wind hard.along h.beam h.wind h.along column band
    (cross_entry column band cross) (cross_entry column band cross') (wave_entry column band wave) (wave_entry column band wave')
    ((cross_rises column band).rises cross.0 cross'.0 c) ((wave_rises column band).rises wave wave' v))

-- so the figure is no less where the harder has entries
pub figure_rises : (easy hard : Stretch) (a b : Result Entries WidthFault) → NoNarrower easy hard a b → entries_number b ≡ 0
    → width_figure easy a ≤ width_figure hard b
figure_rises easy hard a b (as_wide rises) e = rises
figure_rises easy hard a b refused e = absurd (omega arith)
