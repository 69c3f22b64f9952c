-- The test of a bad field holds of the fields that the definition calls bad, and the first it finds is the least.
use mathlib.Core.Path.{◌≡◌, refl, sym, ◌∙◌}
use mathlib.Core.Bool.{Bool, true, false, ◌||◌, ◌&&◌, not, or-true, beq, true≢false}
use mathlib.Core.List.{List}
use mathlib.Core.Logic.{◌↔◌}
use Prim.Native.Nat.{ℕ, zero, suc, ◌+◌, ◌<◌, ◌≤◌}
use native.Mathlib.Numerals.{add-one}
use native.Mathlib.Omega.{arith}
use borrow.Author.Tests.{eq-eqb, ne_eqb, lt-ltb, eqb-true, eqb-false, ltb-true}
use lib.Dec.{eqb, ltb}
use Rattle.laws.proofs.Never.{never}
use Rattle.laws.specs.Extremes.{Least}
use Rattle.laws.proofs.First.{first_is, is_first, is_none, none_is}
use Rattle.sheet.specs.Fields.{count, nth, least, greatest, pair_bad, bad_at, first_bad, Bad, too_small, too_great, turn_without_radius, radius_without_turn, figure_without_source}

module _ (v : List ℕ) where
  -- the two pairs
  pair_turn : pair_bad v 25 ≡ true → Bad v 26
  unfolding pair_bad
  pair_turn t = go (eqb (nth v 24) 0) (eqb (nth v 25) 0) refl refl t
    where
      go : (a b : Bool) → eqb (nth v 24) 0 ≡ a → eqb (nth v 25) 0 ≡ b → not (beq a b) ≡ true → Bad v 26
      go true true p q t = never cc
      go true false p q t = radius_without_turn (eqb-true (nth v 24) 0 p) (eqb-false (nth v 25) 0 q)
      go false true p q t = turn_without_radius (eqb-false (nth v 24) 0 p) (eqb-true (nth v 25) 0 q)
      go false false p q t = never cc

  pair_level : pair_bad v 27 ≡ true → Bad v 28
  unfolding pair_bad
  pair_level t = go (eqb (nth v 26) 0) (eqb (nth v 27) 0) refl refl t
    where
      go : (a b : Bool) → eqb (nth v 26) 0 ≡ a → eqb (nth v 27) 0 ≡ b → (a && not b) ≡ true → Bad v 28
      go true true p q t = never cc
      go true false p q t = figure_without_source (eqb-true (nth v 26) 0 p) (eqb-false (nth v 27) 0 q)
      go false b p q t = never cc

  pair_told : (k : ℕ) → pair_bad v k ≡ true → Bad v (suc k)
  unfolding pair_bad
  pair_told k t = go (eqb k 25) (eqb k 27) refl refl
    where
      go : (a b : Bool) → eqb k 25 ≡ a → eqb k 27 ≡ b → Bad v (suc k)
      go true b p q = let e : k ≡ 25 = eqb-true k 25 p in rw e (pair_turn (rw e at t))
      go false true p q = let e : k ≡ 27 = eqb-true k 27 q in rw e (pair_level (rw e at t))
      go false false p q = absurd (true≢false (sym (rw (p, q) at t)))

  -- what the test finds bad is bad
  pub told_bad : (k : ℕ) → k < count → bad_at v k ≡ true → Bad v (suc k)
  unfolding bad_at
  told_bad k h t = go (ltb (nth v k) (least k)) (ltb (greatest k) (nth v k)) refl refl t
    where
      go : (a b : Bool) → ltb (nth v k) (least k) ≡ a → ltb (greatest k) (nth v k) ≡ b → (a || (b || pair_bad v k)) ≡ true → Bad v (suc k)
      go true b p q t = too_small k h (ltb-true (nth v k) (least k) p)
      go false true p q t = too_great k h (ltb-true (greatest k) (nth v k) q)
      go false false p q t = pair_told k t

  -- what is bad is a field's number, and the test finds it
  pub record Tested (n : ℕ) : Type 0 where
    pub at : ℕ
    pub number : n ≡ suc at
    pub within : at < count
    pub told : bad_at v at ≡ true

  pub bad_tested : (n : ℕ) → Bad v n → Tested n
  unfolding bad_at pair_bad
  bad_tested n (too_small k h l) = record { at = k; number = refl; within = h; told = rw (lt-ltb (nth v k) (least k) l) }
  bad_tested n (too_great k h l) = record { at = k; number = refl; within = h; told = rw (lt-ltb (greatest k) (nth v k) l, or-true) }
  bad_tested n (turn_without_radius a b) =
      record { at = 25; number = refl; within = omega arith; told = rw (ne_eqb (nth v 24) 0 a, eq-eqb (nth v 25) 0 b, or-true, or-true) }
  bad_tested n (radius_without_turn a b) =
      record { at = 25; number = refl; within = omega arith; told = rw (eq-eqb (nth v 24) 0 a, ne_eqb (nth v 25) 0 b, or-true, or-true) }
  bad_tested n (figure_without_source a b) =
      record { at = 27; number = refl; within = omega arith; told = rw (eq-eqb (nth v 26) 0 a, ne_eqb (nth v 27) 0 b, or-true, or-true) }

  -- so a bad field is one of the fields
  pub bad_within : (n : ℕ) → Bad v n → n ≤ count
  bad_within n b = let t = bad_tested n b in omega (arith, t.number, t.within)

  -- a test that is not true at a place is false there
  not_told : (j : ℕ) → (bad_at v j ≡ true → ⊥) → bad_at v j ≡ false
  not_told j n = go (bad_at v j) refl
    where
      go : (b : Bool) → bad_at v j ≡ b → b ≡ false
      go true e = absurd (n e)
      go false e = refl

  found_least : (k : ℕ) → first_bad v ≡ k → (k ≡ 0 → ⊥) → Least (Bad v) k
  unfolding first_bad
  found_least zero e n = absurd (n refl)
  found_least (suc k) e n =
      let f = is_first (bad_at v) count k (rw add-one e) in
      record {
        holds = told_bad k f.within f.here;
        least =
            λ m b. let t = bad_tested m b in
            let reached : ¬ (t.at < k) = λ h. true≢false (sym t.told ∙ f.none_before t.at h) in
            omega (arith, t.number);
      }

  least_found : (k : ℕ) → Least (Bad v) k → (first_bad v ≡ k) × (k ≡ 0 → ⊥)
  unfolding first_bad
  least_found k l =
      let t = bad_tested k l.holds in
      let e : k ≡ t.at + 1 = omega (arith, t.number) in
      let none : (j : ℕ) → j < t.at → bad_at v j ≡ false = λ j h. not_told j (λ b. omega (arith, l.least (suc j) (told_bad j (omega (arith, t.within)) b))) in
      (first_is (bad_at v) count t.at (record { within = t.within; here = t.told; none_before = none }) ∙ sym e, λ z. omega arith)

  -- the number that is found, and is not 0, is the least number of a bad field
  pub first_least : (k : ℕ) → ((first_bad v ≡ k) × (k ≡ 0 → ⊥)) ↔ Least (Bad v) k
  first_least k = ((λ f. found_least k f.0 f.1), least_found k)

  -- and 0 where no field is bad
  pub none_bad : (first_bad v ≡ 0) ↔ ((k : ℕ) → Bad v k → ⊥)
  unfolding first_bad
  none_bad = (
    (λ e k b. let t = bad_tested k b in true≢false (sym t.told ∙ is_none (bad_at v) count e t.at t.within)),
    (λ n. none_is (bad_at v) count (λ j h. not_told j (λ b. n (suc j) (told_bad j h b)))),
  )
