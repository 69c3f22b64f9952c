-- The first bad field, by runs of fields that are tested against no other, and from there on.
use Rattle.std.specs.Prelude.{Option, Some, None}
use mathlib.Core.Path.{◌≡◌, refl, ap, sym, ◌∙◌}
use mathlib.Core.List.{List}
use Prim.Native.Nat.{ℕ, ◌+◌, ◌-◌, ◌≤◌}
use native.Mathlib.Omega.{arith}
use borrow.Author.Tests.{eq-eqb, ne_eqb}
use lib.Dec.{eqb}
use Rattle.laws.specs.Choice.{ifᵇ◌then◌else◌}
use Rattle.laws.specs.First.{first_from}
use Rattle.sheet.specs.Fields.{count, outside_at, bad_at, first_bad, named}
use Rattle.sheet.proofs.fields.Rules.{alone}
use Rattle.sheet.proofs.fields.Runs.{past_run, same_run, named_some, named_none}

module _ (figures : List ℕ) where
  -- none of the first k fields is bad: the first is the first past them
  pub record Passed (k : ℕ) : Type 0 where
    pub same : first_from (bad_at figures) k (count - k) ≡ first_bad figures

  pub passed_none : Passed 0
  unfolding first_bad
  passed_none = record { same = refl }

  module _ (from to : ℕ) (o : Option ℕ) (up : from ≤ to) (end : to ≤ 25) (p : Passed from) (e : o ≡ named (first_from (outside_at figures) from (to - from))) where
    abbrev found : ℕ
    found = first_from (outside_at figures) from (to - from)

    -- the run, and what is past it
    both : (ifᵇ eqb found 0 then first_from (bad_at figures) to (count - to) else found) ≡ first_bad figures
    both =
        let run : found ≡ first_from (bad_at figures) from (to - from) =
        same_run (outside_at figures) (bad_at figures) 25 (alone figures) from (to - from) (omega arith) in
        let rest : (to - from) + (count - to) ≡ count - from = omega arith in
        let place : from + (to - from) ≡ to = omega arith in
        sym (rw (rest, place, ← run) at (past_run (bad_at figures) from (to - from) (count - to))) ∙ p.same

    pub passed_run : o ≡ None → Passed to
    passed_run none = record { same = rw (eq-eqb found 0 (named_none o _ e none)) at both }

    pub passed_run_bad : (k : ℕ) → o ≡ Some k → Some k ≡ named (first_bad figures)
    passed_run_bad k some =
        let n = named_some o k _ e some in
        let first : found ≡ first_bad figures = rw (ne_eqb found 0 (λ z. n.1 (n.0 ∙ z))) at both in
        sym some ∙ e ∙ ap named first
