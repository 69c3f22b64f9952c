-- The silt at its ends: a column's figure in one piece, the mark of a column that has none, the 14 that this gives, and nothing dug.
use mathlib.Core.Path.{◌≡◌, refl, sym, ap, ◌∙◌}
use mathlib.Core.Logic.{◌↔◌}
use mathlib.Core.Bool.{Bool, true, false}
use Prim.Native.Nat.{ℕ, ◌+◌, ◌-◌, ◌*◌, ◌/◌, ◌^◌, ◌≤◌, ◌<◌}
use native.Mathlib.Nat.{add-mul-div_right}
use native.Mathlib.Omega.{arith}
use borrow.Author.Tests.{leb-true, leb-false}
use lib.Dec.{leb}
use Rattle.laws.specs.Rounding.{up}
use Rattle.laws.specs.Extremes.{Least}
use Rattle.depth.specs.declared.Stretch.{Stretch}
use Rattle.depth.specs.declared.Column.{Column}
use Rattle.depth.specs.declared.Column.TheVariants.{A}
use Rattle.depth.specs.declared.DepthFault.TheVariants.{SiltOver}
use Rattle.depth.specs.Squat.{none}
use Rattle.depth.specs.Depth.{z3, natural_of, filling, sailing, own_column, Serves, Meets, depth_number}
use Rattle.depth.specs.Worksheet.{endless, silt, figure, work_depth}
use Rattle.depth.specs.Reasons.{SiltsUp, there}
use Rattle.depth.proofs.Sizes.{silt_size}
use Rattle.depth.proofs.squat.Columns.{column_a}
use Rattle.depth.proofs.cuts.Easier.{serves_earlier}
use Rattle.depth.proofs.cuts.Settling.{not_dug, fills_up, settles, z4_none, no_figure_exactly}
use Rattle.depth.proofs.cuts.LeastCut.{served_some}
use Rattle.depth.proofs.cuts.Reasons.{number_exactly}

module _ (q : Stretch) (c : Column) where
  -- the whole dug part over the part that the silt leaves
  pub figure_computed : natural_of q < sailing q c → filling q < 100000
      → figure q c ≡ natural_of q + up (100000 * (sailing q c - natural_of q)) (100000 - filling q)
  unfolding figure silt
  figure_computed h k =
      let a = sailing q c - natural_of q in
      let left = 100000 - filling q in
      let sum : (filling q + left) * a ≡ 100000 * a = ap (λ (n : ℕ). n * a) (let e : filling q + left ≡ 100000 = omega arith in e) in
      let whole : filling q * a + (left - 1) + a * left ≡ 100000 * a + (left - 1) = omega (arith, sum) in
      let parts : (filling q * a + (left - 1) + a * left) / left ≡ up (filling q * a) left + a = add-mul-div_right _ _ (omega arith) in
      omega (arith, settles q (sailing q c) h k, sym (ap (λ (n : ℕ). n / left) whole) ∙ parts)

  -- in the numbers of a stretch no silt is as great as the mark
  pub endless_exactly : sailing q c < 2 ^ 19 → (silt q c ≡ endless) ↔ SiltsUp q c
  unfolding silt
  endless_exactly small = (
    (λ e. go e (leb (sailing q c) (natural_of q)) (leb 100000 (filling q)) refl refl),
    (λ u. sym (fills_up q (sailing q c) u.0 u.1)),
  )
    where
      settled : natural_of q < sailing q c → filling q < 100000 → silt q c < endless
      settled h k = omega (arith, settles q (sailing q c) h k, silt_size {filling = filling q} {dug = sailing q c - natural_of q} k (omega arith))

      go : silt q c ≡ endless → (a b : Bool) → leb (sailing q c) (natural_of q) ≡ a → leb 100000 (filling q) ≡ b → SiltsUp q c
      go e true b f g = absurd (omega (arith, not_dug q (sailing q c) (leb-true _ _ f)))
      go e false true f g = (leb-false _ _ f, leb-true _ _ g)
      go e false false f g = absurd (omega (arith, settled (leb-false _ _ f) (leb-false _ _ g)))

module _ (q : Stretch) (entry : z3 q A < none) where
  pub silts_up_is_14 : SiltsUp q A → depth_number (work_depth q) ≡ 14
  silts_up_is_14 u =
      (number_exactly q SiltOver).1
      (record { column = A; reached = there A; fails = (entry, λ d f. absurd ((no_figure_exactly q A).1 u d f)) })

  -- where nothing is dug down to the s of column A, that s is the cut, whatever the silting
  pub not_dug_cut : sailing q A ≤ natural_of q → sailing q A ≤ 3000 → Least (Meets q) (sailing q A)
  not_dug_cut h to =
      let own : A ≡ own_column q (sailing q A) = column_a (natural_of q) (sailing q A) (omega arith) in
      let z = z4_none q A h (sailing q A) in
      let served : Serves q A (sailing q A) = record { entry = entry; silt = omega arith; deep = omega arith } in
      record {
        holds = record { from = served_some q A _ served; to = to; served = rw (← own) served };
        least = λ d m. omega (arith, (serves_earlier q A (own_column q d) d (omega arith) m.served).deep);
      }
