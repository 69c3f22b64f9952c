-- The silt of a column's figure. Unless every cut silts up whole, the figure is the least cut that is deep enough, and its silt the z4 of that cut;
-- where it does, no cut is deep enough, and the silt is marked so.
use mathlib.Core.Path.{◌≡◌, refl, ap, ◌∙◌}
use mathlib.Core.Logic.{◌↔◌}
use mathlib.Core.Bool.{Bool, true, false}
use Prim.Native.Nat.{ℕ, ◌+◌, ◌-◌, ◌*◌, ◌≤◌, ◌<◌}
use native.Mathlib.Nat.{le_refl, le_antisymm, mul-le-mul_right}
use native.Mathlib.Omega.{arith}
use borrow.Author.Tests.{leb-true, leb-false, le-leb, lt-leb}
use lib.Dec.{leb}
use Rattle.laws.specs.Rounding.{up}
use Rattle.laws.proofs.Rounding.{up_le, up_reaches}
use Rattle.laws.proofs.Extremes.{least_only}
use Rattle.depth.specs.declared.Stretch.{Stretch}
use Rattle.depth.specs.declared.Column.{Column}
use Rattle.depth.specs.Depth.{natural_of, filling, sailing, silt_to, z4, Deep}
use Rattle.depth.specs.Worksheet.{endless, silt_over, silt, figure}
use Rattle.depth.specs.Reasons.{IsFigure, SiltsUp}
use Rattle.depth.proofs.cuts.Easier.{as_hard, z4_rises}

-- y more than a holds the part K of K + L that falls into the whole, exactly when it holds K a over L
own_part : (K L a y : ℕ) → 0 < L → (up (K * (a + y)) (K + L) ≤ y) ↔ (up (K * a) L ≤ y)
own_part K L a y h = (
  (λ p. (up_le (K * a) L y h).1 (let q : K * (a + y) ≤ y * (K + L) = (up_le (K * (a + y)) (K + L) y (omega arith)).0 p in omega arith)),
  (λ p. (up_le (K * (a + y)) (K + L) y (omega arith)).1 (let q : K * a ≤ y * L = (up_le (K * a) L y h).0 p in omega arith)),
)

-- the three ways to a column's silt
module _ (q : Stretch) (s : ℕ) where
  pub not_dug : s ≤ natural_of q → 0 ≡ silt_over q s
  unfolding silt_over
  not_dug h = simp (le-leb _ _ h)

  pub fills_up : natural_of q < s → 100000 ≤ filling q → endless ≡ silt_over q s
  unfolding silt_over
  fills_up h k = simp (lt-leb _ _ h, le-leb _ _ k)

  pub settles : natural_of q < s → filling q < 100000 → up (filling q * (s - natural_of q)) (100000 - filling q) ≡ silt_over q s
  unfolding silt_over
  settles h k = simp (lt-leb _ _ h, lt-leb _ _ k)

module _ (q : Stretch) (c : Column) where
  pub z4_none : sailing q c ≤ natural_of q → (d : ℕ) → z4 q c d ≡ 0
  unfolding z4
  z4_none h d = simp (le-leb _ _ h)

  pub z4_some : natural_of q < sailing q c → (d : ℕ) → z4 q c d ≡ up (filling q * (d - natural_of q)) 100000
  unfolding z4 silt_to
  z4_some h d = rw (lt-leb (sailing q c) (natural_of q) h) refl

  never_deep : SiltsUp q c → (d : ℕ) → ¬ Deep q c d
  never_deep u d deep =
      let most : filling q * (d - natural_of q) ≤ up (filling q * (d - natural_of q)) 100000 * 100000 = up_reaches _ 100000 (omega arith) in
      let part : 100000 * (d - natural_of q) ≤ filling q * (d - natural_of q) = mul-le-mul_right (d - natural_of q) u.1 in
      omega (arith, u.0, z4_some u.0 d)

  -- silt within any limit under the mark's
  pub silt_stays : silt q c < endless → ¬ SiltsUp q c
  unfolding silt
  silt_stays less u = omega (arith, fills_up q (sailing q c) u.0 u.1)

  z4_grows : (d e : ℕ) → d ≤ e → z4 q c d ≤ z4 q c e
  z4_grows = z4_rises q q (as_hard q) c c (le_refl _)

  module _ (stays : ¬ SiltsUp q c) where
    -- what the silt leaves of a cut
    some_left : natural_of q < sailing q c → filling q < 100000
    some_left h = go (leb 100000 (filling q)) refl
      where
        go : (b : Bool) → leb 100000 (filling q) ≡ b → filling q < 100000
        go true e = absurd (stays (h, leb-true _ _ e))
        go false e = leb-false _ _ e

    -- a cut is deep enough exactly when it is the figure or deeper
    deep_exactly : (d : ℕ) → Deep q c d ↔ (figure q c ≤ d)
    unfolding figure silt
    deep_exactly d = go (leb (sailing q c) (natural_of q)) refl
      where
        go : (b : Bool) → leb (sailing q c) (natural_of q) ≡ b → Deep q c d ↔ (sailing q c + silt_over q (sailing q c) ≤ d)
        go true e =
            let h : sailing q c ≤ natural_of q = leb-true _ _ e in
            let z = z4_none h d in
            let n = not_dug q (sailing q c) h in
            ((λ p. omega arith), (λ p. omega arith))
        go false e =
            let h : natural_of q < sailing q c = leb-false _ _ e in
            let z = z4_some h d in
            let t = settles q (sailing q c) h (some_left h) in
            let o = own_part (filling q) (100000 - filling q) (sailing q c - natural_of q) (d - sailing q c) (omega (arith, some_left h)) in
            let whole : filling q + (100000 - filling q) ≡ 100000 = omega (arith, some_left h) in (
              (λ p. let w : sailing q c - natural_of q + (d - sailing q c) ≡ d - natural_of q = omega arith in
                  let r = o.0 (rw (whole, w) (omega arith)) in omega arith),
              (λ p. let w : sailing q c - natural_of q + (d - sailing q c) ≡ d - natural_of q = omega arith in
                  let r = rw (whole, w) at (o.1 (omega arith)) in omega arith),
            )

    pub figure_is : IsFigure q c (figure q c)
    figure_is = record { holds = (deep_exactly (figure q c)).1 (le_refl _); least = λ d deep. (deep_exactly d).0 deep }

    -- its silt is its z4: one less would hold a thinner one
    pub silt_is : silt q c ≡ z4 q c (figure q c)
    unfolding figure
    silt_is = go (leb (silt q c) (z4 q c (figure q c))) refl
      where
        go : (b : Bool) → leb (silt q c) (z4 q c (figure q c)) ≡ b → silt q c ≡ z4 q c (figure q c)
        go true e = le_antisymm (leb-true _ _ e) (omega (arith, figure_is.holds))
        go false e =
            let less : z4 q c (figure q c) < silt q c = leb-false _ _ e in
            absurd (omega (arith, figure_is.least (figure q c - 1) (omega (arith, z4_grows (figure q c - 1) (figure q c) (omega arith)))))

  -- of any cut that is deep enough
  module _ (d : ℕ) (deep : Deep q c d) where
    deep_stays : ¬ SiltsUp q c
    deep_stays u = never_deep u d deep

    pub figure_under : figure q c ≤ d
    figure_under = (figure_is deep_stays).least d deep

    pub silt_under : silt q c ≤ z4 q c d
    silt_under = rw (silt_is deep_stays) (z4_grows (figure q c) d figure_under)

  -- of whatever is the figure
  pub line_figure : (d : ℕ) → IsFigure q c d → (figure q c ≡ d) × (silt q c ≡ z4 q c d)
  line_figure d f =
      let stays = deep_stays d f.holds in
      let same = least_only (Deep q c) (figure q c) d (figure_is stays) f in
      (same, silt_is stays ∙ ap (z4 q c) same)

  pub figure_sum : (d : ℕ) → IsFigure q c d → d ≡ sailing q c + z4 q c d
  unfolding figure
  figure_sum d f = let l = line_figure d f in omega (arith, l.0, l.1)

  pub no_figure_exactly : ((d : ℕ) → ¬ IsFigure q c d) ↔ SiltsUp q c
  no_figure_exactly = (
    (λ none. go none (leb (sailing q c) (natural_of q)) (leb 100000 (filling q)) refl refl),
    (λ u d f. never_deep u d f.holds),
  )
    where
      go : ((d : ℕ) → ¬ IsFigure q c d) → (a b : Bool) → leb (sailing q c) (natural_of q) ≡ a → leb 100000 (filling q) ≡ b → SiltsUp q c
      go none true b e f = absurd (none _ (figure_is (λ u. omega (arith, leb-true, u.0))))
      go none false true e f = (leb-false _ _ e, leb-true _ _ f)
      go none false false e f = absurd (none _ (figure_is (λ u. omega (arith, leb-false, u.1))))
