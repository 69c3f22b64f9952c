-- Each band rises: a greater wind, current or wave takes no less, and no entry counts as the greatest.
use Rattle.std.specs.Prelude.{Option, Some, None}
use Prim.Native.Nat.{ℕ, ◌≤◌}
use native.Mathlib.Nat.{le_refl, le_trans}
use native.Mathlib.Omega.{arith}
use Rattle.laws.specs.Choice.{ifᵇ◌then◌else◌, ◌≤ᵇ◌, ◌<ᵇ◌}
use Rattle.laws.proofs.Rising.{Rises, last_band, next_band, under_falls, to_falls}
use Rattle.width.specs.Bands.{cross_entry, along_item, wave_entry}
use Rattle.width.specs.Additions.{wind_item}
use Rattle.width.specs.declared.Water.{Water}
use Rattle.width.specs.declared.Water.TheVariants.{Open, Sheltered}
use Rattle.width.specs.declared.SpeedBand.{SpeedBand}
use Rattle.width.specs.declared.SpeedBand.TheVariants.{Moderate, Slow}

-- entries in order, with none as the greatest
pub data Upto : Option ℕ → Option ℕ → Type 0 where
  tenths : {n m : ℕ} → n ≤ m → Upto (Some n) (Some m)
  blank : {a : Option ℕ} → Upto a None

pub upto_same : (a : Option ℕ) → Upto a a
upto_same (Some n) = tenths (le_refl n)
upto_same None = blank

pub upto_trans : (a b c : Option ℕ) → Upto a b → Upto b c → Upto a c
upto_trans a b c (tenths p) (tenths q) = tenths (le_trans p q)
upto_trans a b c p blank = blank

abbrev pub EntriesRise : Option ℕ → (ℕ → Option ℕ) → Type 0
EntriesRise = Rises Upto upto_same upto_trans

abbrev pub ItemsRise : ℕ → (ℕ → ℕ) → Type 0
ItemsRise = Rises ◌≤◌ le_refl (λ a b c p q. le_trans p q)

-- three bands of plain items
three_items : (low high start end : ℕ) → low ≤ high
    → ItemsRise 0 (λ x. ifᵇ x <ᵇ start then 0 else (ifᵇ x ≤ᵇ end then low else high))
three_items low high start end h =
    next_band ◌≤◌ le_refl (λ a b c p q. le_trans p q) (λ x. x <ᵇ start) (under_falls start) 0 0 (omega arith) _
    (next_band ◌≤◌ le_refl (λ a b c p q. le_trans p q) (λ x. x ≤ᵇ end) (to_falls end) 0 low (omega arith) _
    (last_band ◌≤◌ le_refl (λ a b c p q. le_trans p q) low high h))

pub wind_rises : (band : SpeedBand) → ItemsRise 0 (wind_item band)
unfolding wind_item
wind_rises Moderate = three_items 4 8 15 33 (omega arith)
wind_rises Slow = three_items 5 10 15 33 (omega arith)

pub along_rises : (band : SpeedBand) → ItemsRise 0 (λ x. along_item band (record { 0 = x }))
unfolding along_item
along_rises Moderate = three_items 1 2 15 30 (omega arith)
along_rises Slow = three_items 2 4 15 30 (omega arith)

cross_bands : (a b : ℕ) (last : Option ℕ) → a ≤ b → Upto (Some b) last
    → EntriesRise (Some 0) (λ x. ifᵇ x <ᵇ 2 then Some 0 else (ifᵇ x ≤ᵇ 5 then Some a else (ifᵇ x ≤ᵇ 15 then Some b else last)))
cross_bands a b last p q =
    next_band Upto upto_same upto_trans (λ x. x <ᵇ 2) (under_falls 2) (Some 0) (Some 0) (tenths (omega arith)) _
    (next_band Upto upto_same upto_trans (λ x. x ≤ᵇ 5) (to_falls 5) (Some 0) (Some a) (tenths (omega arith)) _
    (next_band Upto upto_same upto_trans (λ x. x ≤ᵇ 15) (to_falls 15) (Some a) (Some b) (tenths p) _
    (last_band Upto upto_same upto_trans (Some b) last q)))

pub cross_rises : (water : Water) (band : SpeedBand) → EntriesRise (Some 0) (λ x. cross_entry water band (record { 0 = x }))
unfolding cross_entry
cross_rises Open Moderate = cross_bands 2 7 (Some 10) (omega arith) (tenths (omega arith))
cross_rises Open Slow = cross_bands 3 10 (Some 13) (omega arith) (tenths (omega arith))
cross_rises Sheltered Moderate = cross_bands 1 5 None (omega arith) blank
cross_rises Sheltered Slow = cross_bands 2 8 None (omega arith) blank

wave_bands : (mid last : Option ℕ) → Upto (Some 0) mid → Upto mid last
    → EntriesRise (Some 0) (λ x. ifᵇ x ≤ᵇ 100 then Some 0 else (ifᵇ x ≤ᵇ 300 then mid else last))
wave_bands mid last p q =
    next_band Upto upto_same upto_trans (λ x. x ≤ᵇ 100) (to_falls 100) (Some 0) (Some 0) (tenths (omega arith)) _
    (next_band Upto upto_same upto_trans (λ x. x ≤ᵇ 300) (to_falls 300) (Some 0) mid p _
    (last_band Upto upto_same upto_trans mid last q))

pub wave_rises : (water : Water) (band : SpeedBand) → EntriesRise (Some 0) (wave_entry water band)
unfolding wave_entry
wave_rises Open Moderate = wave_bands (Some 10) (Some 22) (tenths (omega arith)) (tenths (omega arith))
wave_rises Open Slow = wave_bands (Some 5) (Some 15) (tenths (omega arith)) (tenths (omega arith))
wave_rises Sheltered Moderate = wave_bands None None blank blank
wave_rises Sheltered Slow = wave_bands None None blank blank
