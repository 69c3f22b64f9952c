-- The tries of a walk: one line of it, how many they are, and its last try.
use mathlib.Core.Path.{◌≡◌, refl}
use mathlib.Core.Bool.{Bool, true, false}
use mathlib.Core.List.{[], ◌∷◌}
use Prim.Native.Nat.{ℕ, zero, suc, ◌+◌, ◌≤◌, ◌<◌}
use native.Mathlib.Omega.{arith}
use lib.ListN.{length}
use Rattle.laws.specs.Choice.{ifᵇ◌then◌else◌}
use Rattle.depth.specs.declared.Stretch.{Stretch}
use Rattle.depth.specs.declared.Column.{Column}
use Rattle.depth.specs.declared.Column.TheVariants.{A}
use Rattle.depth.specs.declared.ReckonedDepth.{ReckonedDepth}
use Rattle.depth.specs.declared.Try.{Try}
use Rattle.depth.specs.Squat.{column_number, squat_of}
use Rattle.depth.specs.Depth.{z3, sailing, sailing_with, column_of, natural_of}
use Rattle.depth.specs.Worksheet.{reckoned, column_try, moves_on, walk, tries, last_try, Forward, silt_over, silt, figure}

-- one line of the walk
module _ (line : Column → Try) (c : Column) where
  pub walk_stops : (often : ℕ) → moves_on (line c) ≡ false → walk line (suc often) c ≡ line c ∷ []
  unfolding walk
  walk_stops often e = rw e

  pub walk_goes_on : (often : ℕ) → moves_on (line c) ≡ true → walk line (suc often) c ≡ line c ∷ walk line often (line c).falls_in
  unfolding walk
  walk_goes_on often e = rw e

  pub walk_last : walk line zero c ≡ line c ∷ []
  unfolding walk
  walk_last = refl

-- so often and once more, at most
walk_length : (line : Column → Try) (often : ℕ) (c : Column) → (1 ≤ length (walk line often c)) × (length (walk line often c) ≤ often + 1)
unfolding walk
walk_length line zero c = omega arith
walk_length line (suc often) c = go (moves_on (line c)) (walk_length line often (line c).falls_in)
  where
    go : (b : Bool) → (1 ≤ length (walk line often (line c).falls_in)) × (length (walk line often (line c).falls_in) ≤ often + 1)
        → (1 ≤ suc (length (ifᵇ b then walk line often (line c).falls_in else [])))
        × (suc (length (ifᵇ b then walk line often (line c).falls_in else [])) ≤ suc often + 1)
    go true h = omega arith
    go false h = omega arith

pub tries_count : (q : Stretch) → (1 ≤ length (tries q)) × (length (tries q) ≤ 3)
unfolding tries
tries_count q = walk_length (column_try q) 2 A

-- a try in front of a walk: the last try is the walk's, and the tries go forward where the first of the walk is past it
module _ (t : Try) (line : Column → Try) where
  pub last_later : (often : ℕ) (c : Column) → last_try (t ∷ walk line often c) ≡ last_try (walk line often c)
  unfolding walk
  last_later zero c = refl
  last_later (suc often) c = refl

  pub forward_later : (often : ℕ) (c : Column) → column_number t.column < column_number (line c).column → Forward (walk line often c)
      → Forward (t ∷ walk line often c)
  unfolding walk
  forward_later zero c h f = (h, f)
  forward_later (suc often) c h f = (h, f)

-- what the line of every column has, the last try has
last_has : (P : Try → Type 0) (line : Column → Try) → ((c : Column) → P (line c)) → (often : ℕ) (c : Column) → P (last_try (walk line often c))
unfolding walk
last_has P line h zero c = h c
last_has P line h (suc often) c = go (moves_on (line c)) (last_has P line h often (line c).falls_in)
  where
    go : (b : Bool) → P (last_try (walk line often (line c).falls_in))
        → P (last_try (line c ∷ (ifᵇ b then walk line often (line c).falls_in else [])))
    go true r = rw (last_later (line c) line often (line c).falls_in) r
    go false r = h c

module _ (q : Stretch) where
  sails : (c : Column) → (column_try q c).sailing.0 ≤ (column_try q c).figure.0
  unfolding column_try figure
  sails c = omega arith

  pub last_sails : (last_try (tries q)).sailing.0 ≤ (last_try (tries q)).figure.0
  unfolding tries
  last_sails = last_has (λ t. t.sailing.0 ≤ t.figure.0) (column_try q) sails 2 A

-- a line as the code has it
pub line_is : (q : Stretch) (c : Column) (squat : ℕ) (s : ReckonedDepth) (z : ℕ) (falls : Column) → squat ≡ squat_of q.lanes c q.speed
    → s ≡ reckoned (sailing_with q squat) → z ≡ silt_over q s.0 → falls ≡ column_of (natural_of q) (s.0 + z)
    → record { column = c; squat = squat; sailing = s; silt = z; figure = reckoned (s.0 + z); falls_in = falls } ≡ column_try q c
unfolding column_try figure silt z3 sailing
line_is q c squat s z falls a b d e = rw (e, d, b, a) refl
