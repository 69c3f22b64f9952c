-- A figure is in the class that it is given, and in no other where the four limits fall; its limits are those of that class and the one before.
use mathlib.Core.Path.{◌≡◌, refl, sym, subst, ◌∙◌}
use mathlib.Core.Bool.{Bool, true, false}
use mathlib.Core.Logic.{◌↔◌}
use Prim.Native.Nat.{ℕ, ◌≤◌, ◌<◌}
use native.Mathlib.Omega.{arith}
use borrow.Author.Tests.{leb-true, leb-false}
use lib.Dec.{leb}
use Rattle.std.specs.Prelude.{Some, None}
use Rattle.laws.proofs.Never.{never}
use Rattle.laws.specs.Choice.{ifᵇ◌then◌else◌, ◌=ᵇ◌}
use Rattle.class.specs.Classes.{class_by, limits, limits_by, Around, InClass, is_special, is_first, is_second, is_third, is_last}

module _ (special first second third figure : ℕ) where
  given_class : InClass special first second third figure (class_by special first second third figure)
  unfolding class_by
  given_class = go (leb special figure) (leb first figure) (leb second figure) (leb third figure) refl refl refl refl
    where
      go : (a b c d : Bool) → leb special figure ≡ a → leb first figure ≡ b → leb second figure ≡ c → leb third figure ≡ d
          → InClass special first second third figure (ifᵇ a then 0 else (ifᵇ b then 1 else (ifᵇ c then 2 else (ifᵇ d then 3 else 4))))
      go true b c d p q r t = is_special (leb-true special figure p)
      go false true c d p q r t = is_first (leb-true first figure q) (leb-false special figure p)
      go false false true d p q r t = is_second (leb-true second figure r) (leb-false first figure q)
      go false false false true p q r t = is_third (leb-true third figure t) (leb-false second figure r)
      go false false false false p q r t = is_last (leb-false third figure t)

  module _ (falling : (first ≤ special) × (second ≤ first) × (third ≤ second)) where
    one_class : (j k : ℕ) → InClass special first second third figure j → InClass special first second third figure k → j ≡ k
    one_class j k (is_special a) (is_special b) = refl
    one_class j k (is_first a b) (is_first c d) = refl
    one_class j k (is_second a b) (is_second c d) = refl
    one_class j k (is_third a b) (is_third c d) = refl
    one_class j k (is_last a) (is_last b) = refl
    one_class j k (is_special a) (is_first b c) = absurd (omega arith)
    one_class j k (is_special a) (is_second b c) = absurd (omega arith)
    one_class j k (is_special a) (is_third b c) = absurd (omega arith)
    one_class j k (is_special a) (is_last b) = absurd (omega arith)
    one_class j k (is_first a b) (is_special c) = absurd (omega arith)
    one_class j k (is_first a b) (is_second c d) = absurd (omega arith)
    one_class j k (is_first a b) (is_third c d) = absurd (omega arith)
    one_class j k (is_first a b) (is_last c) = absurd (omega arith)
    one_class j k (is_second a b) (is_special c) = absurd (omega arith)
    one_class j k (is_second a b) (is_first c d) = absurd (omega arith)
    one_class j k (is_second a b) (is_third c d) = absurd (omega arith)
    one_class j k (is_second a b) (is_last c) = absurd (omega arith)
    one_class j k (is_third a b) (is_special c) = absurd (omega arith)
    one_class j k (is_third a b) (is_first c d) = absurd (omega arith)
    one_class j k (is_third a b) (is_second c d) = absurd (omega arith)
    one_class j k (is_third a b) (is_last c) = absurd (omega arith)
    one_class j k (is_last a) (is_special b) = absurd (omega arith)
    one_class j k (is_last a) (is_first b c) = absurd (omega arith)
    one_class j k (is_last a) (is_second b c) = absurd (omega arith)
    one_class j k (is_last a) (is_third b c) = absurd (omega arith)

    pub class_exactly : (k : ℕ) → (class_by special first second third figure ≡ k) ↔ InClass special first second third figure k
    class_exactly k = (
      (λ e. subst (InClass special first second third figure) e given_class),
      (λ i. one_class (class_by special first second third figure) k given_class i),
    )

  pub class_within : class_by special first second third figure ≤ 4
  class_within = go _ given_class
    where
      go : (k : ℕ) → InClass special first second third figure k → k ≤ 4
      go k (is_special a) = omega arith
      go k (is_first a b) = omega arith
      go k (is_second a b) = omega arith
      go k (is_third a b) = omega arith
      go k (is_last a) = omega arith

  -- the limits that a class means
  abbrev Bounded : ℕ → Type 0
  Bounded k =
      ifᵇ k =ᵇ 0 then (special ≤ figure) else
      (ifᵇ k =ᵇ 1 then ((first ≤ figure) × (figure < special)) else
      (ifᵇ k =ᵇ 2 then ((second ≤ figure) × (figure < first)) else
      (ifᵇ k =ᵇ 3 then ((third ≤ figure) × (figure < second)) else (figure < third))))

  bounded : (k : ℕ) → InClass special first second third figure k → Bounded k
  bounded k (is_special a) = a
  bounded k (is_first a b) = (a, b)
  bounded k (is_second a b) = (a, b)
  bounded k (is_third a b) = (a, b)
  bounded k (is_last a) = a

module _ (special first second third : ℕ) (falling : (first ≤ special) × (second ≤ first) × (third ≤ second)) where
  abbrev class_of : ℕ → ℕ
  class_of = class_by special first second third

  within : (k other : ℕ) → class_of other ≡ k → Bounded special first second third other k
  within k other e = bounded special first second third other k ((class_exactly special first second third other falling k).0 e)

  there : (k other : ℕ) → InClass special first second third other k → class_of other ≡ k
  there k other i = (class_exactly special first second third other falling k).1 i

  -- a class between two others has just the figures from its limit to under the next
  between : (k figure limit next : ℕ) → (1 ≤ k) × (k ≤ 3) → ((o : ℕ) → (class_of o ≡ k) ↔ ((limit ≤ o) × (o < next)))
      → limit ≤ figure → figure < next → Around class_of figure (class_of figure) (limits (Some limit) (Some next))
  between k figure limit next middle exactly passed under =
      let e = (exactly figure).1 (passed, under) in
      record {
        reached = passed;
        under_next = under;
        none_better = (λ z. never cc, λ z. absurd (omega arith));
        none_passed = (λ z. never cc, λ z. absurd (omega arith));
        whole_class = λ o. ((λ z. (exactly o).0 (z ∙ e)), (λ z. (exactly o).1 z ∙ sym e));
      }

  pub limits_around : (figure : ℕ) → Around class_of figure (class_of figure) (limits_by special first second third figure)
  unfolding limits_by
  limits_around figure = go (leb special figure) (leb first figure) (leb second figure) (leb third figure) refl refl refl refl
    where
      go : (a b c d : Bool) → leb special figure ≡ a → leb first figure ≡ b → leb second figure ≡ c → leb third figure ≡ d
          → Around class_of figure (class_of figure)
          (ifᵇ a then limits (Some special) None else
          (ifᵇ b then limits (Some first) (Some special) else
          (ifᵇ c then limits (Some second) (Some first) else (ifᵇ d then limits (Some third) (Some second) else limits None (Some third)))))
      go true b c d p q r t =
          let h = leb-true special figure p in
          let e = there 0 figure (is_special h) in
          record {
            reached = h;
            under_next = tt;
            none_better = (λ z. e, λ z. refl);
            none_passed = (λ z. never cc, λ z. absurd (omega arith));
            whole_class = λ o. ((λ z. (within 0 o (z ∙ e), tt)), (λ z. there 0 o (is_special z.0) ∙ sym e));
          }
      go false true c d p q r t =
          between 1 figure first special (omega arith) (λ o. (within 1 o, λ z. there 1 o (is_first z.0 z.1)))
          (leb-true first figure q) (leb-false special figure p)
      go false false true d p q r t =
          between 2 figure second first (omega arith) (λ o. (within 2 o, λ z. there 2 o (is_second z.0 z.1)))
          (leb-true second figure r) (leb-false first figure q)
      go false false false true p q r t =
          between 3 figure third second (omega arith) (λ o. (within 3 o, λ z. there 3 o (is_third z.0 z.1)))
          (leb-true third figure t) (leb-false second figure r)
      go false false false false p q r t =
          let k = leb-false third figure t in
          let e = there 4 figure (is_last k) in
          record {
            reached = tt;
            under_next = k;
            none_better = (λ z. never cc, λ z. absurd (omega arith));
            none_passed = (λ z. e, λ z. refl);
            whole_class = λ o. ((λ z. (tt, within 4 o (z ∙ e))), (λ z. there 4 o (is_last z.1) ∙ sym e));
          }
