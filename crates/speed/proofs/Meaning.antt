-- What the critical speed is: missing exactly when a needed point is, else every point by its weight, and between the least and the greatest
-- of those needed.
use Rattle.std.specs.Prelude.{Some, None}
use mathlib.Core.Path.{◌≡◌, ap, ap₂, sym, ◌∙◌}
use mathlib.Core.Logic.{⊎_elim}
use Prim.Native.Nat.{ℕ, ◌+◌, ◌-◌, ◌*◌, ◌/◌, ◌≤◌, ◌<◌}
use native.Mathlib.Nat.{mul-pos, mul-one, sub-zero, sub_self}
use native.Mathlib.Omega.{arith}
use Rattle.datum.specs.Datum.{dug}
use Rattle.speed.specs.declared.Section.{Section}
use Rattle.speed.specs.Lines.{parts_of, times}
use Rattle.speed.specs.Table.{shallow_point, full_point}
use Rattle.speed.specs.Critical.{shallow_speed, full_speed, critical_speed, whole}
use Rattle.speed.specs.Weights.{weight, shallow_weight, full_weight, Lacking, of_shallow, of_full, sum}
use Rattle.speed.proofs.lines.Weighing.{product_most, times_from, times_missing, times_thrice, weighed_from, weighed_missing, weighed_alone, weighed_next, near_missing, far_missing}
use Rattle.speed.proofs.lines.Straight.{line, straight_missing, missing_straight, straight_known, line_between, at_line}
use Rattle.speed.proofs.lines.Sums.{sum_same, times_line}
use Rattle.speed.proofs.lines.Threefold.{both_some, threefold_missing, missing_threefold, threefold_known, threefold_between, threefold_sum}

-- at a point of the table the speed is the point's
pub at_shallow_point : (k : ℕ) → shallow_speed (k * 100) ≡ times 100 (shallow_point k)
at_shallow_point k = at_line 100 k (omega arith) shallow_point

pub at_full_point : (i j k : ℕ) → full_speed (i * 5000) (j * 4) (k * 100) ≡ times 2000000 (full_point i j k)
at_full_point i j k =
    at_line 5000 i (omega arith) _
    ∙ ap (times 5000) (at_line 4 j (omega arith) _ ∙ ap (times 4) (at_line 100 k (omega arith) (full_point i j)))
    ∙ times_thrice 5000 4 100 (full_point i j k)

-- the two shares of a section's cut: what is dug, and what shallow water keeps of it
abbrev dug_of : Section → ℕ
dug_of q = dug q.natural.0 q.cut.0

abbrev kept : Section → ℕ
kept q = q.cut.0 - dug_of q

both_shares : (q : Section) → kept q + dug_of q ≡ q.cut.0
both_shares q = omega arith

-- formula (2) over any two tables of numbers
abbrev over_tables : Section → (ℕ → ℕ) → (ℕ → ℕ → ℕ → ℕ) → ℕ
over_tables q shallow full =
    kept q * (20000 * line 100 q.cut.0 shallow)
    + dug_of q * line 5000 q.width (λ i. line 4 q.slope (λ j. line 100 q.cut.0 (full i j)))

-- two shares together lie between what each lies between
shares_between : (a b s t lo hi : ℕ) → (0 < a → (lo * 100 ≤ s) × (s ≤ hi * 100))
    → (0 < b → (lo * 100 * 4 * 5000 ≤ t) × (t ≤ hi * 100 * 4 * 5000))
    → (lo * whole (a + b) ≤ a * (20000 * s) + b * t) × (a * (20000 * s) + b * t ≤ hi * whole (a + b))
shares_between a b s t lo hi near far = (
  omega (arith, product_most a (20000 * (lo * 100)) (20000 * s) (λ h. omega (arith, (near h).0)), product_most b _ _ (λ h. (far h).0)),
  omega (arith, product_most a (20000 * s) (20000 * (hi * 100)) (λ h. omega (arith, (near h).1)), product_most b _ _ (λ h. (far h).1)),
)

-- the shallow share as a sum over all lines of the depth
shallow_sum : (a depth lines : ℕ) (g : ℕ → ℕ) → depth / 100 + 1 < lines
    → a * (20000 * line 100 depth g) ≡ sum lines (λ k. 20000 * weight 100 depth k * a * g k)
shallow_sum a depth lines g enough =
    omega arith ∙ times_line 100 depth lines (omega arith) enough (a * 20000) g ∙ sum_same lines _ _ (λ k. moved (weight 100 depth k) (g k))
  where
    moved : (w s : ℕ) → a * 20000 * w * s ≡ 20000 * w * a * s
    moved w s = omega arith

module _ (q : Section) where
  pub critical_missing : critical_speed q ≡ None → Lacking q
  unfolding critical_speed
  critical_missing e =
      ⊎_elim
      (λ (near, gone).
      let row = times_missing 20000 (shallow_speed q.cut.0) gone in
      let (k, (needed, point)) = straight_missing 100 q.cut.0 (omega arith) shallow_point row in
      of_shallow k (mul-pos (mul-pos (omega arith) needed) near) point)
      (λ (far, gone).
      let (i, j, k, (needed, point)) = threefold_missing 5000 q.width 4 q.slope 100 q.cut.0 (omega arith) full_point gone in
      of_full i j k (mul-pos needed far) point)
      (weighed_missing _ _ _ _ e)

  pub lacking_critical : Lacking q → critical_speed q ≡ None
  unfolding critical_speed
  lacking_critical (of_shallow k h e) =
      let (row, near) = both_some (20000 * weight 100 q.cut.0 k) (kept q) h in
      near_missing _ _ _ _ near
      (ap (times 20000) (missing_straight 100 q.cut.0 (omega arith) shallow_point k (both_some 20000 _ row).1 e))
  lacking_critical (of_full i j k h e) =
      let (needed, far) = both_some (weight 5000 q.width i * weight 4 q.slope j * weight 100 q.cut.0 k) (dug_of q) h in
      far_missing _ _ _ _ far (missing_threefold 5000 q.width 4 q.slope 100 q.cut.0 (omega arith) full_point i j k needed e)

  -- where nothing of the cut is dug, and where all is
  pub not_dug : 0 < q.cut.0 → q.cut.0 ≤ q.natural.0 → critical_speed q ≡ times q.cut.0 (times 20000 (shallow_speed q.cut.0))
  unfolding critical_speed
  not_dug some shallow =
      let none : dug_of q ≡ 0 = omega arith in
      rw (none, sub-zero) (weighed_alone _ _ _ some)

  pub all_dug : 0 < q.cut.0 → q.natural.0 ≡ 0 → critical_speed q ≡ times q.cut.0 (full_speed q.width q.slope q.cut.0)
  unfolding critical_speed
  all_dug some bed =
      let all : dug_of q ≡ q.cut.0 = omega arith in
      rw (all, sub_self) (weighed_next _ _ _ some)

  -- the parts are formula (2) over the two tables' parts
  critical_known : (n : ℕ) → critical_speed q ≡ Some n
      → n ≡ over_tables q (λ k. parts_of (shallow_point k)) (λ i j k. parts_of (full_point i j k))
  unfolding critical_speed
  critical_known =
      weighed_from _ _ _ _ _ _
      (λ h. times_from 20000 (shallow_speed q.cut.0) _ (straight_known 100 q.cut.0 (omega arith) shallow_point))
      (λ h. threefold_known 5000 q.width 4 q.slope 100 q.cut.0 (omega arith) full_point)

  module _ (shallow : ℕ → ℕ) (full : ℕ → ℕ → ℕ → ℕ) where
    tables_between : (lo hi : ℕ) → ((k : ℕ) → 0 < shallow_weight q k → (lo ≤ shallow k) × (shallow k ≤ hi))
        → ((i j k : ℕ) → 0 < full_weight q i j k → (lo ≤ full i j k) × (full i j k ≤ hi))
        → (lo * whole q.cut.0 ≤ over_tables q shallow full) × (over_tables q shallow full ≤ hi * whole q.cut.0)
    tables_between lo hi row sections =
        rw (both_shares q) at
        (shares_between (kept q) (dug_of q) _ _ lo hi
        (λ near. line_between 100 q.cut.0 (omega arith) shallow lo hi (λ k needed. row k (mul-pos (mul-pos (omega arith) needed) near)))
        (λ far. threefold_between 5000 q.width 4 q.slope 100 q.cut.0 (omega arith) full lo hi
        (λ i j k needed. sections i j k (mul-pos needed far))))

    tables_sum : (lines : ℕ) → q.width / 5000 + 1 < lines → q.slope / 4 + 1 < lines → q.cut.0 / 100 + 1 < lines
        → over_tables q shallow full
        ≡ sum lines (λ k. shallow_weight q k * shallow k) + sum lines (λ i. sum lines (λ j. sum lines (λ k. full_weight q i j k * full i j k)))
    tables_sum lines widths slopes depths =
        ap₂ ◌+◌ (shallow_sum (kept q) q.cut.0 lines shallow depths)
        (threefold_sum 5000 q.width 4 q.slope 100 q.cut.0 (omega arith) full (dug_of q) lines widths slopes depths)

  of_ones : over_tables q (λ k. 1) (λ i j k. 1) ≡ whole q.cut.0
  of_ones = omega (arith, tables_between (λ k. 1) (λ i j k. 1) 1 1 (λ k needed. omega arith) (λ i j k needed. omega arith))

  -- the parts lie between the least and the greatest needed point, each times the whole
  pub critical_between : (lo hi n : ℕ)
      → ((k : ℕ) → 0 < shallow_weight q k → (lo ≤ parts_of (shallow_point k)) × (parts_of (shallow_point k) ≤ hi))
      → ((i j k : ℕ) → 0 < full_weight q i j k → (lo ≤ parts_of (full_point i j k)) × (parts_of (full_point i j k) ≤ hi))
      → critical_speed q ≡ Some n → (lo * whole q.cut.0 ≤ n) × (n ≤ hi * whole q.cut.0)
  critical_between lo hi n row sections known = rw (critical_known n known) (tables_between _ _ lo hi row sections)

  -- over so many lines that all with weight are among them
  module _ (lines : ℕ) (widths : q.width / 5000 + 1 < lines) (slopes : q.slope / 4 + 1 < lines) (depths : q.cut.0 / 100 + 1 < lines) where
    -- the parts are those of every point, by its weight
    pub critical_weighted : (n : ℕ) → critical_speed q ≡ Some n
        → n ≡ sum lines (λ k. shallow_weight q k * parts_of (shallow_point k))
        + sum lines (λ i. sum lines (λ j. sum lines (λ k. full_weight q i j k * parts_of (full_point i j k))))
    critical_weighted n known = critical_known n known ∙ tables_sum _ _ lines widths slopes depths

    -- the weights of all points are the whole: the sum over tables of ones
    pub whole_weight : sum lines (shallow_weight q) + sum lines (λ i. sum lines (λ j. sum lines (λ k. full_weight q i j k)))
        ≡ whole q.cut.0
    whole_weight = simp mul-one at (sym (tables_sum (λ k. 1) (λ i j k. 1) lines widths slopes depths) ∙ of_ones)
