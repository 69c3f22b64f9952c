-- The squat table: each entry is some squat, "none" is the greatest, and nothing falls from A to B to C, from lone to passing, or with the speed.
-- One test of each rule is computed over the whole table and carried to each entry.
use mathlib.Core.Path.{◌≡◌, refl}
use mathlib.Core.Bool.{Bool, true, false}
use mathlib.Core.List.{[]}
use mathlib.Core.Logic.{◌↔◌}
use Prim.Native.Nat.{ℕ, suc, ◌+◌, ◌-◌, ◌*◌, ◌≤◌, ◌<◌}
use native.Mathlib.Omega.{arith}
use borrow.Author.Tests.{ltb-true, ltb-false, leb-true, leb-false, lt-ltb, le-ltb}
use lib.Dec.{T, ltb, leb, leb→le, le→leb}
use lib.ListN.{get_or}
use Rattle.laws.specs.Choice.{◌≤ᵇ◌}
use Rattle.laws.specs.Every.{every}
use Rattle.laws.proofs.Every.{where_true, holds_there, every_at}
use Rattle.lanes.specs.declared.Lanes.{Lanes}
use Rattle.depth.specs.declared.Column.{Column}
use Rattle.depth.specs.declared.Column.TheVariants.{A, B, C}
use Rattle.depth.specs.Squat.{none, squat_table, column_number, squat_reading, squat_entry, squat_of, fastest_entry}
use Rattle.depth.proofs.squat.Columns.{column_most, reading_most}

-- a speed outside the table has no entry
module _ (c l v : ℕ) where
  pub too_slow : v < 2 → none ≡ squat_entry c l v
  unfolding squat_entry
  too_slow h = simp (lt-ltb _ _ h)

  pub too_fast : 12 < v → none ≡ squat_entry c l v
  unfolding squat_entry
  too_fast h = let k : 2 ≤ v = omega arith in simp (le-ltb _ _ k, lt-ltb _ _ h)

  pub outside : (2 ≤ v → v ≤ 12 → ⊥) → none ≡ squat_entry c l v
  outside h = go (ltb v 2) (ltb 12 v) refl refl
    where
      go : (a b : Bool) → ltb v 2 ≡ a → ltb 12 v ≡ b → none ≡ squat_entry c l v
      go true b e f = too_slow (ltb-true _ _ e)
      go false true e f = too_fast (ltb-true _ _ f)
      go false false e f = absurd (h (ltb-false _ _ e) (ltb-false _ _ f))

  pub in_table : 2 ≤ v → v ≤ 12 → get_or (get_or squat_table (2 * c + l) []) (v - 2) 0 ≡ squat_entry c l v
  unfolding squat_entry
  in_table h k = simp (le-ltb _ _ h, le-ltb _ _ k)

  pub entry_from : squat_entry c l v < none → 2 ≤ v
  entry_from h = go (ltb v 2) refl
    where
      go : (t : Bool) → ltb v 2 ≡ t → 2 ≤ v
      go true e = absurd (omega (arith, too_slow (ltb-true _ _ e)))
      go false e = ltb-false _ _ e

-- a test of each entry: of the three columns, the two readings and the speeds to 12
abbrev each_entry : (ℕ → ℕ → ℕ → Bool) → Bool
each_entry test = every 3 (λ c. every 2 (λ l. every 13 (λ v. test c l v)))

at_entry : (test : ℕ → ℕ → ℕ → Bool) → T (each_entry test) → (c l v : ℕ) → c ≤ 2 → l ≤ 1 → v ≤ 12 → T (test c l v)
at_entry test t c l v hc hl hv =
    every_at 13 (λ x. test c l x)
    (every_at 2 (λ k. every 13 (λ x. test c k x))
    (every_at 3 (λ d. every 2 (λ k. every 13 (λ x. test d k x))) t c (omega arith)) l (omega arith)) v (omega arith)

-- each entry is some squat, and at most "none"
some : ℕ → ℕ → ℕ → Bool
some c l v = 1 ≤ᵇ squat_entry c l v

some_test : T (each_entry some)
unfolding squat_entry some
some_test = tt

most : ℕ → ℕ → ℕ → Bool
most c l v = squat_entry c l v ≤ᵇ none

most_test : T (each_entry most)
unfolding squat_entry most
most_test = tt

module _ (c l : ℕ) (hc : c ≤ 2) (hl : l ≤ 1) where
  pub squat_some : (v : ℕ) → 1 ≤ squat_entry c l v
  unfolding some
  squat_some v = go (ltb 12 v) refl
    where
      go : (t : Bool) → ltb 12 v ≡ t → 1 ≤ squat_entry c l v
      go true e = omega (arith, too_fast c l v (ltb-true _ _ e))
      go false e = leb→le 1 (squat_entry c l v) (at_entry some some_test c l v hc hl (ltb-false _ _ e))

  pub squat_most : (v : ℕ) → squat_entry c l v ≤ none
  unfolding most
  squat_most v = go (ltb 12 v) refl
    where
      go : (t : Bool) → ltb 12 v ≡ t → squat_entry c l v ≤ none
      go true e = omega (arith, too_fast c l v (ltb-true _ _ e))
      go false e = leb→le (squat_entry c l v) none (at_entry most most_test c l v hc hl (ltb-false _ _ e))

-- nothing falls
never_falls : ℕ → ℕ → ℕ → ℕ → ℕ → ℕ → Bool
never_falls c l v c' l' v' =
    where_true (c ≤ᵇ c') (where_true (l ≤ᵇ l') (where_true (2 ≤ᵇ v) (where_true (v ≤ᵇ v') (squat_entry c l v ≤ᵇ squat_entry c' l' v'))))

never_falls_test : T (each_entry (λ c l v. each_entry (never_falls c l v)))
unfolding squat_entry never_falls
never_falls_test = tt

module _ (c c' l l' v v' : ℕ) (hc : c ≤ c') (hc' : c' ≤ 2) (hl : l ≤ l') (hl' : l' ≤ 1) (hv : 2 ≤ v) (hv' : v ≤ v') where
  rises_in_table : v' ≤ 12 → squat_entry c l v ≤ squat_entry c' l' v'
  unfolding never_falls
  rises_in_table h =
      leb→le (squat_entry c l v) (squat_entry c' l' v')
      (holds_there (v ≤ᵇ v') _
      (holds_there (2 ≤ᵇ v) _
      (holds_there (l ≤ᵇ l') _
      (holds_there (c ≤ᵇ c') _
      (at_entry (never_falls c l v)
      (at_entry (λ d k x. each_entry (never_falls d k x)) never_falls_test c l v (omega arith) (omega arith) (omega arith)) c' l' v' hc' hl' h)
      (le→leb c c' hc)) (le→leb l l' hl)) (le→leb 2 v hv)) (le→leb v v' hv'))

  squat_rises : squat_entry c l v ≤ squat_entry c' l' v'
  squat_rises = go (ltb 12 v') refl
    where
      go : (t : Bool) → ltb 12 v' ≡ t → squat_entry c l v ≤ squat_entry c' l' v'
      go true e = omega (arith, squat_most c l (omega arith) (omega arith) v, too_fast c' l' v' (ltb-true _ _ e))
      go false e = rises_in_table (ltb-false _ _ e)

-- the same of lanes and columns
pub lanes_columns_speeds : (lanes lanes' : Lanes) (c c' : Column) (v v' : ℕ) → squat_reading lanes ≤ squat_reading lanes'
    → column_number c ≤ column_number c' → 2 ≤ v → v ≤ v' → squat_of lanes c v ≤ squat_of lanes' c' v'
lanes_columns_speeds lanes lanes' c c' v v' hl hc hv hv' =
    squat_rises (column_number c) (column_number c') (squat_reading lanes) (squat_reading lanes') v v' hc (column_most c') hl (reading_most lanes')
    hv hv'

-- a column has an entry at the speeds to its fastest, which is 12 in A and one less in each later column, and at none behind it
within : ℕ → ℕ → ℕ → Bool
within c l v = where_true (2 ≤ᵇ v) (where_true (v ≤ᵇ 12 - c) (suc (squat_entry c l v) ≤ᵇ none))

within_test : T (each_entry within)
unfolding squat_entry within
within_test = tt

behind : ℕ → ℕ → ℕ → Bool
behind c l v = where_true (suc (12 - c) ≤ᵇ v) (none ≤ᵇ squat_entry c l v)

behind_test : T (each_entry behind)
unfolding squat_entry behind
behind_test = tt

module _ (c l v : ℕ) (hc : c ≤ 2) (hl : l ≤ 1) (hv : 2 ≤ v) where
  entry_within : v ≤ 12 - c → squat_entry c l v < none
  unfolding within
  entry_within h =
      leb→le (suc (squat_entry c l v)) none
      (holds_there (v ≤ᵇ 12 - c) _
      (holds_there (2 ≤ᵇ v) _ (at_entry within within_test c l v hc hl (omega arith)) (le→leb 2 v hv)) (le→leb v (12 - c) h))

  none_behind : 12 - c < v → none ≤ squat_entry c l v
  unfolding behind
  none_behind h = go (ltb 12 v) refl
    where
      go : (t : Bool) → ltb 12 v ≡ t → none ≤ squat_entry c l v
      go true e = omega (arith, too_fast c l v (ltb-true _ _ e))
      go false e =
          leb→le none (squat_entry c l v)
          (holds_there (suc (12 - c) ≤ᵇ v) _ (at_entry behind behind_test c l v hc hl (ltb-false _ _ e)) (le→leb (suc (12 - c)) v h))

  entry_to : squat_entry c l v < none → v ≤ 12 - c
  entry_to h = go (leb v (12 - c)) refl
    where
      go : (t : Bool) → leb v (12 - c) ≡ t → v ≤ 12 - c
      go true e = leb-true _ _ e
      go false e = absurd (omega (arith, none_behind (leb-false _ _ e)))

fastest_by_number : (c : Column) → fastest_entry c ≡ 12 - column_number c
fastest_by_number A = refl
fastest_by_number B = refl
fastest_by_number C = refl

pub fastest_exactly : (lanes : Lanes) (c : Column) (v : ℕ) → 2 ≤ v → (squat_of lanes c v < none) ↔ (v ≤ fastest_entry c)
fastest_exactly lanes c v h = rw (fastest_by_number c) (entry_to _ _ _ (column_most c) (reading_most lanes) h, entry_within _ _ _ (column_most c) (reading_most lanes) h)
