-- The order in which straight lines are drawn over three grids (section 13.2).
use Rattle.std.specs.Prelude.{◌≡◌, ℕ, Option}
use Rattle.speed.specs.Lines.{straight}

-- over the width's grid, of step p at x, then the slope's, of step q at y, then the depth's, of step r at z
abbrev pub width_slope_depth : ℕ → ℕ → ℕ → ℕ → ℕ → ℕ → (ℕ → ℕ → ℕ → Option ℕ) → Option ℕ
width_slope_depth p x q y r z f = straight p x (λ i. straight q y (λ j. straight r z (λ k. f i j k)))

-- each of the other five orders comes to the same speed
pub record AnyOrder (p x q y r z : ℕ) (f : ℕ → ℕ → ℕ → Option ℕ) : Type 0 where
  pub width_depth_slope : straight p x (λ i. straight r z (λ k. straight q y (λ j. f i j k))) ≡ width_slope_depth p x q y r z f
  pub slope_width_depth : straight q y (λ j. straight p x (λ i. straight r z (λ k. f i j k))) ≡ width_slope_depth p x q y r z f
  pub slope_depth_width : straight q y (λ j. straight r z (λ k. straight p x (λ i. f i j k))) ≡ width_slope_depth p x q y r z f
  pub depth_width_slope : straight r z (λ k. straight p x (λ i. straight q y (λ j. f i j k))) ≡ width_slope_depth p x q y r z f
  pub depth_slope_width : straight r z (λ k. straight q y (λ j. straight p x (λ i. f i j k))) ≡ width_slope_depth p x q y r z f
