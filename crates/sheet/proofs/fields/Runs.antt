-- The search for the first place where a test holds, by runs of places.
use Rattle.std.specs.Prelude.{Option, Some, None}
use mathlib.Core.Path.{◌≡◌, refl, ap}
use mathlib.Core.Bool.{Bool, true, false}
use Prim.Native.Nat.{ℕ, zero, suc, ◌+◌, ◌<◌, ◌≤◌}
use native.Mathlib.Nat.{add-zero, zero-add, suc-add, add-suc}
use native.Mathlib.Omega.{arith}
use borrow.Author.Tests.{ne_eqb}
use lib.Dec.{eqb}
use Rattle.laws.specs.Choice.{ifᵇ◌then◌else◌}
use Rattle.laws.specs.First.{first_from}
use Rattle.laws.proofs.Never.{never}
use Rattle.sheet.specs.Fields.{named}

module _ (test : ℕ → Bool) where
  -- a run of n places and m more: the first is that of the run, or past it where it has none
  pub past_run : (i n m : ℕ) → first_from test i (n + m) ≡ (ifᵇ eqb (first_from test i n) 0 then first_from test (i + n) m else first_from test i n)
  unfolding first_from
  past_run i zero m = rw (zero-add, add-zero)
  past_run i (suc n) m = go (test i) refl (past_run (suc i) n m)
    where
      go : (b : Bool) → test i ≡ b
          → first_from test (suc i) (n + m) ≡ (ifᵇ eqb (first_from test (suc i) n) 0 then first_from test (suc i + n) m else first_from test (suc i) n)
          → first_from test i (suc n + m) ≡ (ifᵇ eqb (first_from test i (suc n)) 0 then first_from test (i + suc n) m else first_from test i (suc n))
      go true t on = rw (suc-add, t, ne_eqb (suc i) 0 (λ e. omega arith))
      go false t on = rw (suc-add, t, on, suc-add, add-suc)

-- a search that ends at a place names the number behind it, and one that ends nowhere names none
pub found_named : (i r : ℕ) → i + 1 ≡ r → Some (i + 1) ≡ named r
found_named i zero e = absurd (omega arith)
found_named i (suc r) e = ap Some e

pub none_named : (r : ℕ) → 0 ≡ r → None ≡ named r
none_named r e = ap named e

-- what is named is that number, and where none is named it is 0
pub named_some : (o : Option ℕ) (k r : ℕ) → o ≡ named r → o ≡ Some k → (k ≡ r) × (k ≡ 0 → ⊥)
named_some o k zero e is = never cc
named_some o k (suc r) e is = (cc, λ z. never cc)

pub named_none : (o : Option ℕ) (r : ℕ) → o ≡ named r → o ≡ None → r ≡ 0
named_none o zero e is = refl
named_none o (suc r) e is = never cc

-- two tests that agree below a place find the same before it
pub same_run : (test other : ℕ → Bool) (end : ℕ) → ((k : ℕ) → k < end → test k ≡ other k) → (i n : ℕ) → i + n ≤ end
    → first_from test i n ≡ first_from other i n
unfolding first_from
same_run test other end same i zero h = refl
same_run test other end same i (suc n) h =
    rw (same i (omega arith), same_run test other end same (suc i) n (omega arith))
