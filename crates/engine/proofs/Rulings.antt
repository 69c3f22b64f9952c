-- The rules of a column, and of the columns from A on: where no cut meets the definition, the reason is that of the first that cannot be used.
use Rattle.std.specs.Prelude.{Option, Some, None, Result, Ok, Err}
use mathlib.Core.Path.{◌≡◌, refl, sym, subst}
use mathlib.Core.Bool.{Bool, true, false}
use mathlib.Core.Logic.{◌≢◌}
use Prim.Native.Nat.{ℕ, zero, suc, ◌+◌, ◌≤◌, ◌<◌}
use native.Mathlib.Omega.{arith}
use borrow.Author.Tests.{leb-true, leb-false, ltb-true, ltb-false}
use lib.Dec.{leb, ltb}
use Rattle.laws.specs.Choice.{ifᵇ◌then◌else◌}
use Rattle.depth.specs.declared.Stretch.{Stretch}
use Rattle.depth.specs.declared.Column.{Column}
use Rattle.depth.specs.declared.Column.TheVariants.{A}
use Rattle.depth.specs.declared.DepthFault.TheVariants.{NoSquatEntry, CutOver}
use Rattle.depth.specs.Squat.{none, column_number}
use Rattle.depth.specs.Depth.{z3, natural_of, sailing, z4, Deep, own_column, Meets}
use Rattle.depth.specs.Reasons.{IsFigure, Usable, Fails as FailsBy, Comes, there, by_way_of, FirstUnusable}
use Rattle.depth.proofs.squat.Columns.{column_most, same_column}
use Rattle.depth.proofs.cuts.LeastCut.{served_some}
use Rattle.depth.proofs.cuts.Reasons.{usable_serves}
use Rattle.depth.proofs.Promises.{figure_of_its_silt, never_falls_back}
use Rattle.engine.specs.Plain.{deep, by_figure, by_ruling, first_figure, ruling_of, reason_from}
use Rattle.engine.proofs.Searches.{Searched, searched, found_least}
use Rattle.engine.proofs.Serving.{fails_not, deep_exactly}
use Rattle.depth.specs.declared.DepthFault.{DepthFault}

module _ (q : Stretch) where
  -- what a ruling says of its column: it fails by a test and by none before it, or it can be used and its figure falls there
  abbrev Ruled : Column → Result Column DepthFault → Type 0
  Ruled c (Err fault) = FailsBy q c fault
  Ruled c (Ok c') = (d : ℕ) × Usable q c d × (c' ≡ own_column q d)

  module _ (c : Column) where
    -- a figure is deep enough, and s or more
    not_under : (d : ℕ) → Deep q c d → sailing q c ≤ d
    not_under d deep = omega arith

    -- the first from s on is the figure
    found_figure : (e : ℕ) → Searched (deep q c) (sailing q c) 121 (Some e) → IsFigure q c e
    found_figure e f = found_least (deep q c) (sailing q c) 121 (Deep q c) (λ m. (deep_exactly q c m).1) not_under e f ((deep_exactly q c e).0 f.2)

    found_silt : (e : ℕ) → Searched (deep q c) (sailing q c) 121 (Some e) → z4 q c e ≤ 120
    found_silt e f = omega (arith, f.1, (found_figure e f).holds)

    -- where none is found, the figure, if there is one, has more silt
    none_found : Searched (deep q c) (sailing q c) 121 None → (d : ℕ) → IsFigure q c d → 120 < z4 q c d
    none_found f d is = go (leb (z4 q c d) 120) refl
      where
        go : (b : Bool) → leb (z4 q c d) 120 ≡ b → 120 < z4 q c d
        go true t = absurd (fails_not _ (deep_exactly q c d) (f d (not_under d is.holds) (omega (arith, leb-true, figure_of_its_silt q c d is))) is.holds)
        go false t = leb-false _ _ t

    by_search_lem : z3 q c < none → (r : Option ℕ) → Searched (deep q c) (sailing q c) 121 r → Ruled c (by_figure (natural_of q) r)
    by_search_lem entry None f = (entry, none_found f)
    by_search_lem entry (Some e) f = go (ltb 3000 e) refl
      where
        go : (b : Bool) → ltb 3000 e ≡ b → Ruled c (ifᵇ b then Err CutOver else Ok (own_column q e))
        go true t = (entry, (e, found_figure e f, found_silt e f, ltb-true _ _ t))
        go false t = (e, record { entry = entry; figure = found_figure e f; silt = found_silt e f; to = ltb-false _ _ t }, refl)

    figure_searched : Searched (deep q c) (sailing q c) 121 (first_figure q c)
    unfolding first_figure
    figure_searched = searched (deep q c) (sailing q c) 121

    by_entry : (b : Bool) → leb none (z3 q c) ≡ b → Ruled c (ifᵇ b then Err NoSquatEntry else by_figure (natural_of q) (first_figure q c))
    by_entry true t = leb-true _ _ t
    by_entry false t = by_search_lem (leb-false _ _ t) (first_figure q c) figure_searched

    pub ruled : Ruled c (ruling_of q c)
    unfolding ruling_of
    ruled = by_entry (leb none (z3 q c)) refl

  -- one column more is come to
  comes_on : (a c : Column) (d : ℕ) → Comes q a c → Usable q c d → own_column q d ≢ c → Comes q a (own_column q d)
  comes_on a c d (there _) u other = by_way_of a (own_column q d) d u other (there (own_column q d))
  comes_on a c d (by_way_of _ _ e v away r) u other = by_way_of a (own_column q d) e v away (comes_on (own_column q e) c d r u other)

  module _ (none-meets : (d : ℕ) → ¬ Meets q d) where
    -- a column that can be used has its figure elsewhere: in its own it would meet the definition
    falls_elsewhere : (c : Column) (d : ℕ) → Usable q c d → own_column q d ≢ c
    falls_elsewhere c d u same =
        let v = usable_serves q c d u in
        none-meets d (record { from = served_some q c d v; to = u.to; served = rw same v })

    -- in a later one, as none falls back
    falls_later : (c : Column) (d : ℕ) → Comes q A c → Usable q c d → column_number c < column_number (own_column q d)
    falls_later c d r u =
        let other : column_number (own_column q d) ≡ column_number c → ⊥ = λ same. falls_elsewhere c d u (same_column _ _ same) in
        omega (arith, never_falls_back q c d r u)

    -- so the first that fails is one of three
    pub reasoned : (many : ℕ) (c : Column) → Comes q A c → 3 ≤ many + column_number c → FirstUnusable q (reason_from q many c)
    unfolding reason_from
    reasoned zero c r h = absurd (omega (arith, column_most c))
    reasoned (suc many) c r h = go (ruling_of q c) (ruled c) (reasoned many)
      where
        go : (ruling : Result Column DepthFault) → Ruled c ruling → ((c' : Column) → Comes q A c' → 3 ≤ many + column_number c' → FirstUnusable q (reason_from q many c'))
            → FirstUnusable q (by_ruling (reason_from q many) ruling)
        go (Err fault) f later = record { column = c; reached = r; fails = f }
        go (Ok c') f later =
            subst (λ (x : Column). FirstUnusable q (reason_from q many x)) (sym f.2)
            (later (own_column q f.0) (comes_on A c f.0 r f.1 (falls_elsewhere c f.0 f.1)) (omega (arith, falls_later c f.0 r f.1)))
