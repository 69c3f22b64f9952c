-- The plain engine is the definition, read straight: its cut is the least that meets it, and where it has none, none does.
use Rattle.std.specs.Prelude.{Option, Some, None}
use mathlib.Core.Path.{◌≡◌, refl, subst}
use mathlib.Core.Bool.{true, false}
use Prim.Native.Nat.{ℕ, ◌^◌, ◌<◌}
use native.Mathlib.Omega.{arith}
use Rattle.laws.specs.Extremes.{Least}
use Rattle.depth.specs.declared.Stretch.{Stretch}
use Rattle.depth.specs.declared.Column.TheVariants.{A}
use Rattle.depth.specs.Depth.{Meets}
use Rattle.depth.specs.Reasons.{there}
use Rattle.engine.specs.Plain.{meets, first_cut, reason_of, figures_at, by_search, plain_depth}
use Rattle.engine.specs.Meaning.{AsRead}
use Rattle.engine.proofs.Searches.{Searched, searched, found_least}
use Rattle.engine.proofs.Serving.{fails_not, meets_exactly}
use Rattle.engine.proofs.Rulings.{reasoned}

module _ (q : Stretch) where
  -- a cut that the search passed does not meet the definition
  passed : (d : ℕ) → meets q d ≡ false → ¬ Meets q d
  passed d e m = fails_not _ (meets_exactly q d) e m.served

  least_met : (e : ℕ) → Searched (meets q) 1 3000 (Some e) → Least (Meets q) e
  least_met e f =
      found_least (meets q) 1 3000 (Meets q) (λ m met. (meets_exactly q m).1 met.served) (λ m met. met.from) e f
      (record { from = f.0; to = omega (arith, f.1); served = (meets_exactly q e).0 f.2 })

  by_search_lem : (r : Option ℕ) → Searched (meets q) 1 3000 r → AsRead q (by_search q r)
  unfolding figures_at reason_of
  by_search_lem (Some e) f = record { cut = least_met e f; sailing_depth = refl }
  by_search_lem None f =
      let none : (d : ℕ) → ¬ Meets q d = λ d m. passed d (f d m.from (omega (arith, m.to))) m in
      record { none = none; reason = reasoned q none 3 A (there A) (omega arith) }

  cut_searched : Searched (meets q) 1 3000 (first_cut q)
  unfolding first_cut
  cut_searched = searched (meets q) 1 3000

  pub cut_found : (d : ℕ) → first_cut q ≡ Some d → (d < 2 ^ 16) × (meets q d ≡ true)
  cut_found d e = let f = subst (Searched (meets q) 1 3000) e cut_searched in (omega (arith, f.1), f.2)

  pub read_straight : AsRead q (plain_depth q)
  unfolding plain_depth
  read_straight = by_search_lem (first_cut q) cut_searched
