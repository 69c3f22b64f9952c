-- Each item of a width is under 256 tenths of the beam, and no widening is over 4,134 lengths of the ship: so both figures are under 2 ^ 31.
use Rattle.std.specs.Prelude.{Option, Some, None, Ok, Err}
use mathlib.Core.Path.{◌≡◌, refl}
use mathlib.Core.Bool.{Bool, true, false}
use Prim.Native.Nat.{ℕ, ◌*◌, ◌^◌, ◌≤◌, ◌<◌}
use native.Mathlib.Nat.{mul-le-mul}
use native.Mathlib.Omega.{arith}
use borrow.Author.Tests.{eqb-false, ltb-true, ltb-false}
use lib.Dec.{ltb, eqb, lit<}
use Rattle.laws.specs.Choice.{ifᵇ◌then◌else◌}
use Rattle.laws.proofs.Rounding.{up_le}
use Rattle.datum.specs.declared.CrossCurrent.{CrossCurrent}
use Rattle.lanes.specs.declared.Lanes.{Lanes}
use Rattle.lanes.specs.declared.Lanes.TheVariants.{One, Two}
use Rattle.width.specs.Bands.{by◌in-open◌in-sheltered◌, for◌moderate◌slow◌, water_of, speed_band_of, cross_entry, along_item, wave_entry, entries_by, entries_of}
use Rattle.width.specs.Additions.{lane_item, wind_item, aids_item, bed_item, depth_item, cargo_item, banks_item, passing_item, traffic_item}
use Rattle.width.specs.Bends.{least_lengths, widening_of, bend_of, widening_figure}
use Rattle.width.specs.Width.{items_of, tenths_of, width_of, width_figure}
use Rattle.width.specs.declared.Water.{Water}
use Rattle.width.specs.declared.Water.TheVariants.{Open, Sheltered}
use Rattle.width.specs.declared.SpeedBand.{SpeedBand}
use Rattle.width.specs.declared.SpeedBand.TheVariants.{Moderate, Slow}
use Rattle.width.specs.declared.Stretch.{Stretch}
use Rattle.width.specs.declared.Entries.{Entries}
use Rattle.width.specs.declared.Items.{Items}
use Rattle.width.proofs.additions.Banks.{bank_within}
use Rattle.width.proofs.bends.Ways.{long_enough}
use Rattle.width.proofs.bends.Products.{widening_to}
use Rattle.width.specs.declared.WidthFault.TheVariants.{BendTooTight}

-- as few tenths as 8 bits hold
abbrev Few : ℕ → Type 0
Few tenths = tenths < 2 ^ 8

-- what is so both ways of a choice is so of the choice
either : {a b : ℕ} (test : Bool) → Few a → Few b → Few (ifᵇ test then a else b)
either true p q = p
either false p q = q

watered : {a b : ℕ} (water : Water) → Few a → Few b → Few (by water in-open a in-sheltered b)
watered Open p q = p
watered Sheltered p q = q

paced : {a b : ℕ} (band : SpeedBand) → Few a → Few b → Few (for band moderate a slow b)
paced Moderate p q = p
paced Slow p q = q

ruleset choices = (either, watered, paced, lit<)

record FewEach (i : Items) : Type 0 where
  lane : Few i.lane
  wind : Few i.wind
  cross : Few i.cross
  along : Few i.along
  wave : Few i.wave
  aids : Few i.aids
  bed : Few i.bed
  depth : Few i.depth
  cargo : Few i.cargo
  banks : Few i.banks
  passing : Few i.passing
  traffic : Few i.traffic

items_few : (s : Stretch) (e : Entries) → Few e.cross → Few e.wave → FewEach (items_of s e)
unfolding items_of lane_item wind_item along_item aids_item bed_item depth_item cargo_item banks_item passing_item traffic_item
items_few s e c w =
    record {
      lane = search choices;
      wind = search choices;
      cross = c;
      along = search choices;
      wave = w;
      aids = search choices;
      bed = search choices;
      depth = search choices;
      cargo = search choices;
      banks = omega (arith, bank_within e.band s.left, bank_within e.band s.right);
      passing = search choices;
      traffic = search choices;
    }

-- 21 items at most, as the lane and what is added stand twice in two lanes
tenths_within : (lanes : Lanes) (i : Items) → FewEach i → tenths_of lanes i ≤ 21 * 255
unfolding tenths_of
tenths_within One i few = omega arith
tenths_within Two i few = omega arith

width_small : (s : Stretch) (e : Entries) → s.beam < 2 ^ 16 → Few e.cross → Few e.wave → width_of s e < 2 ^ 31
unfolding width_of
width_small s e beam c w =
    let tenths = tenths_of s.lanes (items_of s e) in
    let product : tenths * s.beam ≤ 21 * 255 * 65535 =
    mul-le-mul {m₂ = 65535} (tenths_within s.lanes (items_of s e) (items_few s e c w)) (omega arith) in
    omega (arith, (up_le (tenths * s.beam) 10 (21 * 255 * 65535) (omega arith)).1 (omega arith))

-- the entries of the tables of bands
abbrev FewIn : Option ℕ → Type 0
FewIn (Some n) = Few n
FewIn None = Unit {0}

either_entry : (test : Bool) (a b : Option ℕ) → FewIn a → FewIn b → FewIn (ifᵇ test then a else b)
either_entry true a b p q = p
either_entry false a b p q = q

watered_entry : (water : Water) (a b : Option ℕ) → FewIn a → FewIn b → FewIn (by water in-open a in-sheltered b)
watered_entry Open a b p q = p
watered_entry Sheltered a b p q = q

ruleset tables = (either_entry, watered_entry, watered, paced, lit<, tt)

cross_few : (water : Water) (band : SpeedBand) (cross : CrossCurrent) → FewIn (cross_entry water band cross)
unfolding cross_entry
cross_few water band cross = search tables depth 8

wave_few : (water : Water) (band : SpeedBand) (wave : ℕ) → FewIn (wave_entry water band wave)
unfolding wave_entry
wave_few water band wave = search tables depth 8

-- the figure of a stretch, by the entries that it has or has not
module _ (s : Stretch) (beam : s.beam < 2 ^ 16) where
  from_entries : (water : Water) (band : SpeedBand) (cross wave : Option ℕ) → FewIn cross → FewIn wave
      → width_figure s (entries_by water band cross wave) < 2 ^ 31
  from_entries water band (Some n) (Some m) c w = width_small s _ beam c w
  from_entries water band (Some n) None c w = omega arith
  from_entries water band None wave c w = omega arith

  pub width_figure_small : (water speed : ℕ) (cross : CrossCurrent) (wave : ℕ) → width_figure s (entries_of water speed cross wave) < 2 ^ 31
  unfolding entries_of
  width_figure_small water speed cross wave =
      let column = water_of water in
      let band = speed_band_of speed in
      from_entries column band (cross_entry column band cross) (wave_entry column band wave) (cross_few column band cross) (wave_few column band wave)

pub widening_small : (turn radius length knots : ℕ) (lanes : Lanes) → turn < 2 ^ 8 → length < 2 ^ 16 → knots < 2 ^ 8
    → widening_figure (bend_of turn radius length knots lanes) < 2 ^ 31
unfolding bend_of
widening_small turn radius length knots lanes t l k =
    go (eqb turn 0) (ltb (100 * radius) (least_lengths turn * length)) (ltb (100 * radius) (10 * length)) refl refl refl
  where
    go : (a b c : Bool) → eqb turn 0 ≡ a → ltb (100 * radius) (least_lengths turn * length) ≡ b → ltb (100 * radius) (10 * length) ≡ c
        → widening_figure
        (ifᵇ a then Ok 0 else
        (ifᵇ b then (Err BendTooTight) else (ifᵇ c then Ok (widening_of turn radius length knots lanes) else Ok 0))) < 2 ^ 31
    go true b c p q r = omega arith
    go false true c p q r = omega arith
    go false false true p q r =
        let long = long_enough turn radius length knots lanes (eqb-false turn 0 p) (least_lengths turn) refl
        (ltb-false (100 * radius) (least_lengths turn * length) q) (ltb-true (100 * radius) (10 * length) r) in
        omega (arith, widening_to turn radius length knots lanes (omega arith) (omega arith) long)
    go false false false p q r = omega arith
