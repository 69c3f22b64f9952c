-- Straight lines over three grids, one within another: when they are missing, what they come to, as a sum too, and what they lie between.
use Rattle.std.specs.Prelude.{Option, Some, None}
use mathlib.Core.Path.{◌≡◌, ◌∙◌}
use Prim.Native.Nat.{ℕ, zero, suc, ◌+◌, ◌*◌, ◌/◌, ◌≤◌, ◌<◌}
use native.Mathlib.Nat.{mul-pos}
use native.Mathlib.Omega.{arith}
use Rattle.speed.specs.Lines.{parts_of, straight}
use Rattle.speed.specs.Weights.{weight, sum}
use Rattle.speed.specs.Orders.{width_slope_depth}
use Rattle.speed.proofs.lines.Straight.{line, straight_missing, missing_straight, straight_known, straight_from, line_between}
use Rattle.speed.proofs.lines.Sums.{sum_same, times_line}

-- a product is more than 0 only where both its factors are
pub both_some : (a b : ℕ) → 0 < a * b → (0 < a) × (0 < b)
both_some zero b h = absurd (omega arith)
both_some (suc a) zero h = absurd (omega arith)
both_some (suc a) (suc b) h = omega arith

module _ (p x q y r z : ℕ) (some : (0 < p) × (0 < q) × (0 < r)) where
  module _ (f : ℕ → ℕ → ℕ → Option ℕ) where
    pub threefold_missing : width_slope_depth p x q y r z f ≡ None
        → (i j k : ℕ) × ((0 < weight p x i * weight q y j * weight r z k) × (f i j k ≡ None))
    threefold_missing e =
        let (i, a) = straight_missing p x some.0 (λ i. straight q y (λ j. straight r z (f i j))) e in
        let (j, b) = straight_missing q y some.1 (λ j. straight r z (f i j)) a.1 in
        let (k, c) = straight_missing r z some.2 (f i j) b.1 in
        (i, j, k, (mul-pos (mul-pos a.0 b.0) c.0, c.1))

    pub missing_threefold : (i j k : ℕ) → 0 < weight p x i * weight q y j * weight r z k → f i j k ≡ None
        → width_slope_depth p x q y r z f ≡ None
    missing_threefold i j k h e =
        let (h-ij, h-k) = both_some (weight p x i * weight q y j) (weight r z k) h in
        let (h-i, h-j) = both_some (weight p x i) (weight q y j) h-ij in
        missing_straight p x some.0 (λ i. straight q y (λ j. straight r z (f i j))) i h-i
        (missing_straight q y some.1 (λ j. straight r z (f i j)) j h-j (missing_straight r z some.2 (f i j) k h-k e))

    pub threefold_known : (n : ℕ) → width_slope_depth p x q y r z f ≡ Some n
        → n ≡ line p x (λ i. line q y (λ j. line r z (λ k. parts_of (f i j k))))
    threefold_known =
        straight_from p x some.0 _ _ (λ i h. straight_from q y some.1 _ _ (λ j l. straight_known r z some.2 (f i j)))

  module _ (g : ℕ → ℕ → ℕ → ℕ) where
    pub threefold_between : (lo hi : ℕ)
        → ((i j k : ℕ) → 0 < weight p x i * weight q y j * weight r z k → (lo ≤ g i j k) × (g i j k ≤ hi))
        → (lo * r * q * p ≤ line p x (λ i. line q y (λ j. line r z (g i j))))
        × (line p x (λ i. line q y (λ j. line r z (g i j))) ≤ hi * r * q * p)
    threefold_between lo hi within =
        line_between p x some.0 _ (lo * r * q) (hi * r * q) λ i h-i.
        line_between q y some.1 _ (lo * r) (hi * r) λ j h-j.
        line_between r z some.2 (g i j) lo hi λ k h-k. within i j k (mul-pos (mul-pos h-i h-j) h-k)

    -- so many times the parts, as a sum over all lines of the three grids
    pub threefold_sum : (c n : ℕ) → x / p + 1 < n → y / q + 1 < n → z / r + 1 < n
        → c * line p x (λ i. line q y (λ j. line r z (g i j)))
        ≡ sum n (λ i. sum n (λ j. sum n (λ k. weight p x i * weight q y j * weight r z k * c * g i j k)))
    threefold_sum c n widths slopes depths =
        times_line p x n some.0 widths c _
        ∙ sum_same n _ _ λ i. times_line q y n some.1 slopes (c * weight p x i) _
        ∙ sum_same n _ _ λ j. times_line r z n some.2 depths (c * weight p x i * weight q y j) (g i j)
        ∙ sum_same n _ _ λ k. moved (weight p x i) (weight q y j) (weight r z k) (g i j k)
      where
        moved : (u v w s : ℕ) → c * u * v * w * s ≡ u * v * w * c * s
        moved u v w s = omega arith
