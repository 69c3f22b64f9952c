-- The first place where a test holds: what the search answers, and what its answer means.
use mathlib.Core.Path.{◌≡◌, refl, ap, sym, ◌∙◌}
use mathlib.Core.Bool.{Bool, true, false}
use mathlib.Core.Logic.{◌↔◌}
use Prim.Native.Nat.{ℕ, zero, suc, ◌+◌, ◌-◌, ◌≤◌, ◌<◌}
use native.Mathlib.Nat.{not-suc-le-zero, le_of_suc-le-suc, add-suc, suc-add, add-zero, zero-add}
use native.Mathlib.Numerals.{add-one}
use native.Mathlib.Omega.{arith}
use Rattle.laws.specs.Choice.{ifᵇ◌then◌else◌}
use Rattle.laws.specs.First.{first_from, first_of}

-- the test holds at k, one of the first n places, and at none before it
pub record FirstAt (test : ℕ → Bool) (n k : ℕ) : Type 0 where
  pub within : k < n
  pub here : test k ≡ true
  pub none_before : (j : ℕ) → j < k → test j ≡ false

-- the place j past suc i is the place suc j past i
shift : (test : ℕ → Bool) (i j : ℕ) → test (suc i + j) ≡ test (i + suc j)
shift test i j = ap test (suc-add i j ∙ sym (add-suc i j))

found_from : (test : ℕ → Bool) (i n k : ℕ) → k < n → ((j : ℕ) → j < k → test (i + j) ≡ false) → test (i + k) ≡ true
    → first_from test i n ≡ suc (i + k)
unfolding first_from
found_from test i zero k h none here = absurd (not-suc-le-zero h)
found_from test i (suc n) zero h none here =
    let t : test i ≡ true = rw add-zero at here in
    rw t (ap suc (sym (add-zero i)))
found_from test i (suc n) (suc k) h none here =
    let t : test i ≡ false = rw add-zero at (none 0 (omega arith)) in
    rw t
    (found_from test (suc i) n k (le_of_suc-le-suc h) (λ j l. shift test i j ∙ none (suc j) (omega arith)) (shift test i k ∙ here)
    ∙ omega arith)

none_from : (test : ℕ → Bool) (i n : ℕ) → ((j : ℕ) → j < n → test (i + j) ≡ false) → first_from test i n ≡ 0
unfolding first_from
none_from test i zero none = refl
none_from test i (suc n) none =
    let t : test i ≡ false = rw add-zero at (none 0 (omega arith)) in
    rw t (none_from test (suc i) n (λ j l. shift test i j ∙ none (suc j) (omega arith)))

-- what the answer says of the places it passed
pub data Told (test : ℕ → Bool) (i n r : ℕ) : Type 0 where
  found : (k : ℕ) → k < n → r ≡ suc (i + k) → test (i + k) ≡ true → ((j : ℕ) → j < k → test (i + j) ≡ false) → Told test i n r
  nowhere : r ≡ 0 → ((j : ℕ) → j < n → test (i + j) ≡ false) → Told test i n r

-- one more place in front of those that the answer tells of
in_front : (test : ℕ → Bool) (i n : ℕ) → test i ≡ false → ((j : ℕ) → j < n → test (suc i + j) ≡ false)
    → (j : ℕ) → j < suc n → test (i + j) ≡ false
in_front test i n t none zero l = ap test (add-zero i) ∙ t
in_front test i n t none (suc j) l = sym (shift test i j) ∙ none j (le_of_suc-le-suc l)

pub tell : (test : ℕ → Bool) (i n : ℕ) → Told test i n (first_from test i n)
unfolding first_from
tell test i zero = nowhere refl (λ j l. absurd (not-suc-le-zero l))
tell test i (suc n) = go (test i) refl (tell test (suc i) n)
  where
    go : (b : Bool) → test i ≡ b → Told test (suc i) n (first_from test (suc i) n)
        → Told test i (suc n) (ifᵇ b then suc i else first_from test (suc i) n)
    go true e t =
        found 0 (omega arith) (ap suc (sym (add-zero i))) (ap test (add-zero i) ∙ e) (λ j l. absurd (not-suc-le-zero l))
    go false e (found k l r here none) =
        found (suc k) (omega arith) (r ∙ omega arith) (sym (shift test i k) ∙ here) (in_front test i k e none)
    go false e (nowhere r none) = nowhere r (in_front test i n e none)

-- the search from i up to to, by its steps: none is left, the first is here, or it goes on
module _ (test : ℕ → Bool) (i to : ℕ) where
  pub first_end : to ≤ i → 0 ≡ first_from test i (to - i)
  unfolding first_from
  first_end h = let e : to - i ≡ 0 = omega arith in rw e

  pub first_here : i < to → test i ≡ true → i + 1 ≡ first_from test i (to - i)
  unfolding first_from
  first_here h t = let e : to - i ≡ suc (to - (i + 1)) = omega arith in rw (e, t) (add-one i)

  pub first_on : i < to → test i ≡ false → first_from test i (to - i) ≡ first_from test (i + 1) (to - (i + 1))
  unfolding first_from
  first_on h t = let e : to - i ≡ suc (to - (i + 1)) = omega arith in rw (e, t, add-one)

module _ (test : ℕ → Bool) (n : ℕ) where
  pub first_is : (k : ℕ) → FirstAt test n k → first_of test n ≡ k + 1
  first_is k f =
      found_from test 0 n k f.within (λ j l. ap test (zero-add j) ∙ f.none_before j l) (ap test (zero-add k) ∙ f.here)
      ∙ omega arith

  pub none_is : ((j : ℕ) → j < n → test j ≡ false) → first_of test n ≡ 0
  none_is none = none_from test 0 n (λ j l. ap test (zero-add j) ∙ none j l)

  pub is_first : (k : ℕ) → first_of test n ≡ k + 1 → FirstAt test n k
  is_first k e = go (first_of test n) e (tell test 0 n)
    where
      go : (r : ℕ) → r ≡ k + 1 → Told test 0 n r → FirstAt test n k
      go r e (found m l q here none) =
          let s : 0 + m ≡ k = omega arith in
          record {
            within = omega arith;
            here = ap test (sym s) ∙ here;
            none_before = λ j h. ap test (sym (zero-add j)) ∙ none j (omega arith);
          }
      go r e (nowhere q none) = absurd (omega arith)

  pub is_none : first_of test n ≡ 0 → (j : ℕ) → j < n → test j ≡ false
  is_none e j l = go (first_of test n) e (tell test 0 n)
    where
      go : (r : ℕ) → r ≡ 0 → Told test 0 n r → test j ≡ false
      go r e (found m h q here none) = absurd (omega arith)
      go r e (nowhere q none) = ap test (sym (zero-add j)) ∙ none j l

  -- the search answers k + 1 exactly when k is the first place, and 0 exactly when there is none
  pub first_exactly : (k : ℕ) → (first_of test n ≡ k + 1) ↔ FirstAt test n k
  first_exactly k = (is_first k, first_is k)

  pub none_exactly : (first_of test n ≡ 0) ↔ ((j : ℕ) → j < n → test j ≡ false)
  none_exactly = (is_none, none_is)
