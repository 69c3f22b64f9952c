-- The tests of the plain engine, by what they come to.
use Rattle.std.specs.Prelude.{Option, Some, None, Ok, Err}
use Rattle.std.specs.Option.{ok_or}
use mathlib.Core.Path.{◌≡◌, sym, ap, ◌∙◌}
use mathlib.Core.Bool.{false}
use Prim.Native.Nat.{ℕ, suc, ◌-◌, ◌≤◌, ◌<◌}
use native.Mathlib.Omega.{arith}
use borrow.Author.Tests.{le-leb, lt-leb, lt-ltb, le-ltb}
use Rattle.depth.specs.declared.Stretch.{Stretch}
use Rattle.depth.specs.declared.Column.{Column}
use Rattle.depth.specs.declared.DepthFault.{DepthFault}
use Rattle.depth.specs.declared.DepthFault.TheVariants.{NoSquatEntry, SiltOver, CutOver}
use Rattle.depth.specs.Squat.{none}
use Rattle.depth.specs.Depth.{natural_of, z3, z4}
use Rattle.engine.specs.Plain.{deep, serves, by_figure, by_ruling, first_figure, ruling_of, reason_from}

module _ (q : Stretch) (c : Column) where
  -- the three ways to whether a column serves a cut
  module _ (d : ℕ) where
    pub no_entry : none ≤ z3 q c → false ≡ serves q c d
    unfolding serves
    no_entry h = simp (le-leb _ _ h)

    pub much_silt : z3 q c < none → 120 < z4 q c d → false ≡ serves q c d
    unfolding serves
    much_silt h k = simp (lt-leb _ _ h, lt-ltb _ _ k)

    pub by_depth_lem : z3 q c < none → z4 q c d ≤ 120 → deep q c d ≡ serves q c d
    unfolding serves
    by_depth_lem h k = simp (lt-leb _ _ h, le-ltb _ _ k)

  -- the two ways to a column's ruling
  pub rules_entry : none ≤ z3 q c → Err NoSquatEntry ≡ ruling_of q c
  unfolding ruling_of
  rules_entry h = simp (le-leb _ _ h)

  pub rules_figure : z3 q c < none → by_figure (natural_of q) (first_figure q c) ≡ ruling_of q c
  unfolding ruling_of
  rules_figure h = simp (lt-leb _ _ h)

-- the three ways to a reason
module _ (q : Stretch) where
  pub fails_here : (left : ℕ) (c : Column) (fault : DepthFault) → 0 < left → ruling_of q c ≡ Err fault → fault ≡ reason_from q left c
  unfolding reason_from
  fails_here left c fault h e = let f : left ≡ suc (left - 1) = omega arith in rw (f, e)

  pub falls_on : (left : ℕ) (c c' : Column) → 0 < left → ruling_of q c ≡ Ok c' → reason_from q (left - 1) c' ≡ reason_from q left c
  unfolding reason_from
  falls_on left c c' h e =
      let f : left ≡ suc (left - 1) = omega arith in
      sym (ap (λ (n : ℕ). reason_from q n c) f ∙ ap (by_ruling (reason_from q (left - 1))) e)

  pub none_left : (left : ℕ) (c : Column) → left ≤ 0 → CutOver ≡ reason_from q left c
  unfolding reason_from
  none_left left c h = let f : left ≡ 0 = omega arith in rw f

-- a figure that was asked for, or the fault of none
module _ (natural : ℕ) where
  pub asked_found : (figure : Option ℕ) (d : ℕ) → ok_or figure SiltOver ≡ Ok d → by_figure natural (Some d) ≡ by_figure natural figure
  asked_found (Some e) d is = let same : e ≡ d = cc in rw same
  asked_found None d is = cc

  pub asked_none : (figure : Option ℕ) (fault : DepthFault) → ok_or {T = ℕ} figure SiltOver ≡ Err fault → Err fault ≡ by_figure natural figure
  asked_none (Some e) fault is = cc
  asked_none None fault is = cc
