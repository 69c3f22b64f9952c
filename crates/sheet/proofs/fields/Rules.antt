-- When a field is bad: each way out of the rule, and what a field that is not bad keeps.
use mathlib.Core.Path.{◌≡◌, refl, sym}
use mathlib.Core.Bool.{Bool, true, false, ◌||◌, or-false}
use mathlib.Core.List.{List}
use Prim.Native.Nat.{ℕ, ◌<◌, ◌≤◌}
use native.Mathlib.Omega.{arith}
use borrow.Author.Tests.{ltb-false, ne_eqb}
use lib.ListN.{get_or-eq_default}
use Rattle.laws.proofs.Never.{never}
use Rattle.sheet.specs.Fields.{◌bits◌upto◌, fields, field_at, count, nth, least, greatest, outside_at, pair_bad, bad_at}

neither : (a b : Bool) → (a || b) ≡ false → (a ≡ false) × (b ≡ false)
neither true b e = never cc
neither false b e = (refl, e)

-- a field that is not bad
pub record Fine (figures : List ℕ) (k : ℕ) : Type 0 where
  pub low : least k ≤ nth figures k
  pub high : nth figures k ≤ greatest k
  pub pair : pair_bad figures k ≡ false

module _ (figures : List ℕ) (k : ℕ) where
  pub not_bad : bad_at figures k ≡ false → Fine figures k
  unfolding bad_at
  not_bad e =
      let a = neither _ _ e in
      let b = neither _ _ a.1 in
      record { low = ltb-false _ _ a.0; high = ltb-false _ _ b.0; pair = b.1 }

-- past the fields there is none
pub no_field : (k : ℕ) → count ≤ k → (0 bits 0 upto 0) ≡ field_at k
unfolding field_at fields
no_field k h = sym (get_or-eq_default fields (0 bits 0 upto 0) h)

-- up to field 25 none is tested against another
pub alone : (figures : List ℕ) (k : ℕ) → k < 25 → outside_at figures k ≡ bad_at figures k
unfolding outside_at bad_at pair_bad
alone figures k h = rw (ne_eqb k 25 (λ e. omega arith), ne_eqb k 27 (λ e. omega arith), or-false)
