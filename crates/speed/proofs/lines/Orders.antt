-- The order in which the straight lines are drawn does not matter.
use Rattle.std.specs.Prelude.{Option, Some, None}
use mathlib.Core.Path.{◌≡◌, sym, ◌∙◌}
use Prim.Native.Nat.{ℕ, ◌+◌, ◌-◌, ◌*◌, ◌%◌, ◌<◌}
use native.Mathlib.Omega.{arith}
use Rattle.speed.specs.Lines.{parts_of, straight}
use Rattle.speed.specs.Orders.{AnyOrder}
use Rattle.speed.proofs.lines.Weighing.{same_speed}
use Rattle.speed.proofs.lines.Straight.{line, straight_missing, missing_straight, straight_known, straight_from, straight_same}

-- sums of products in two orders
turned : (a b c d s t u v : ℕ) → a * (c * s + d * t) + b * (c * u + d * v) ≡ c * (a * s + b * u) + d * (a * t + b * v)
turned a b c d s t u v = omega arith

line_turned : (p x q y : ℕ) (g : ℕ → ℕ → ℕ) → line p x (λ i. line q y (λ j. g i j)) ≡ line q y (λ j. line p x (λ i. g i j))
line_turned p x q y g = turned (p - x % p) (x % p) (q - y % q) (y % q) _ _ _ _

module _ (p x q y : ℕ) (some-p : 0 < p) (some-q : 0 < q) (f : ℕ → ℕ → Option ℕ) where
  missing_turned : straight p x (λ i. straight q y (λ j. f i j)) ≡ None → straight q y (λ j. straight p x (λ i. f i j)) ≡ None
  missing_turned e =
      let (i, a) = straight_missing p x some-p (λ i. straight q y (f i)) e in
      let (j, b) = straight_missing q y some-q (f i) a.1 in
      missing_straight q y some-q (λ j. straight p x (λ i. f i j)) j b.0 (missing_straight p x some-p (λ i. f i j) i a.0 b.1)

  twofold_known : (n : ℕ) → straight p x (λ i. straight q y (λ j. f i j)) ≡ Some n
      → n ≡ line p x (λ i. line q y (λ j. parts_of (f i j)))
  twofold_known = straight_from p x some-p _ _ (λ i h. straight_known q y some-q (f i))

pub two_orders : (p x q y : ℕ) → 0 < p → 0 < q → (f : ℕ → ℕ → Option ℕ)
    → straight p x (λ i. straight q y (λ j. f i j)) ≡ straight q y (λ j. straight p x (λ i. f i j))
two_orders p x q y some-p some-q f =
    same_speed _ _ (missing_turned p x q y some-p some-q f) (missing_turned q y p x some-q some-p (λ j i. f i j))
    (λ m n known other.
    twofold_known p x q y some-p some-q f m known ∙ line_turned p x q y (λ i j. parts_of (f i j))
    ∙ sym (twofold_known q y p x some-q some-p (λ j i. f i j) n other))

module _ (p x q y r z : ℕ) (some : (0 < p) × (0 < q) × (0 < r)) (f : ℕ → ℕ → ℕ → Option ℕ) where
  pub any_order : AnyOrder p x q y r z f
  any_order =
      let within-width = straight_same p x some.0 _ _ (λ i. two_orders r z q y some.2 some.1 (λ k j. f i j k)) in
      let slope-first = two_orders q y p x some.1 some.0 (λ j i. straight r z (λ k. f i j k)) in
      let depth-first = two_orders r z p x some.2 some.0 (λ k i. straight q y (λ j. f i j k)) ∙ within-width in
      record {
        width_depth_slope = within-width;
        slope_width_depth = slope-first;
        slope_depth_width = straight_same q y some.1 _ _ (λ j. two_orders r z p x some.2 some.0 (λ k i. f i j k)) ∙ slope-first;
        depth_width_slope = depth-first;
        depth_slope_width = straight_same r z some.2 _ _ (λ k. two_orders q y p x some.1 some.0 (λ j i. f i j k)) ∙ depth-first;
      }
