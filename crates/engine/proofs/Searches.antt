-- A search by its steps, and what it found: the first depth that passes, or none.
use Rattle.std.specs.Prelude.{Option, Some, None}
use mathlib.Core.Path.{◌≡◌, refl, sym, ap, ◌∙◌}
use mathlib.Core.Bool.{Bool, true, false, true≢false}
use Prim.Native.Nat.{ℕ, ◌+◌, ◌-◌, ◌≤◌, ◌<◌}
use native.Mathlib.Numerals.{add-one}
use native.Mathlib.Omega.{arith}
use borrow.Author.Tests.{leb-true, leb-false}
use lib.Dec.{leb}
use Rattle.laws.specs.Extremes.{Least}
use Rattle.laws.specs.First.{first_from}
use Rattle.laws.proofs.First.{Told, found, nowhere, tell, first_end, first_here, first_on}
use Rattle.engine.specs.Plain.{found as found_at, first_depth}

-- the search from d up to to, by its steps
module _ (passes : ℕ → Bool) (d to : ℕ) where
  pub depth_here : d < to → passes d ≡ true → Some d ≡ first_depth passes d (to - d)
  unfolding first_depth
  depth_here h t = ap found_at (sym (add-one d) ∙ first_here passes d to h t)

  pub depth_end : to ≤ d → None ≡ first_depth passes d (to - d)
  unfolding first_depth
  depth_end h = ap found_at (first_end passes d to h)

  pub depth_on : d < to → passes d ≡ false → first_depth passes d (to - d) ≡ first_depth passes (d + 1) (to - (d + 1))
  unfolding first_depth
  depth_on h t = ap found_at (first_on passes d to h t)

-- what it found among so many from d on
abbrev pub Searched : (ℕ → Bool) → ℕ → ℕ → Option ℕ → Type 0
Searched passes d many (Some e) = (d ≤ e) × (e < d + many) × (passes e ≡ true) × ((k : ℕ) → d ≤ k → k < e → passes k ≡ false)
Searched passes d many None = (k : ℕ) → d ≤ k → k < d + many → passes k ≡ false

module _ (passes : ℕ → Bool) (d many : ℕ) where
  -- a depth from d on is d and some more
  past : (k : ℕ) → d ≤ k → passes (d + (k - d)) ≡ passes k
  past k h = ap passes (omega arith)

  by_told : (r : ℕ) → Told passes d many r → Searched passes d many (found_at r)
  by_told r (found k l e here none) =
      rw e (omega arith, omega arith, here, (λ j from under. sym (past j from) ∙ none (j - d) (omega arith)))
  by_told r (nowhere e none) = rw e (λ k from under. sym (past k from) ∙ none (k - d) (omega arith))

  pub searched : Searched passes d many (first_depth passes d many)
  unfolding first_depth
  searched = by_told (first_from passes d many) (tell passes d many)

  -- where a rule holds only of what passes, and of nothing before d, the first depth that passes is the least
  pub found_least : (P : ℕ → Type 0) → ((k : ℕ) → P k → passes k ≡ true) → ((k : ℕ) → P k → d ≤ k)
      → (e : ℕ) → Searched passes d many (Some e) → P e → Least P e
  found_least P passing from e f holds = record { holds = holds; least = λ m p. go m p (leb e m) refl }
    where
      go : (m : ℕ) → P m → (b : Bool) → leb e m ≡ b → e ≤ m
      go m p true t = leb-true _ _ t
      go m p false t = absurd (true≢false (sym (passing m p) ∙ f.3 m (from m p) (leb-false _ _ t)))
