-- Figures of which none is bad: each within its values, and so within the bits of its field.
use mathlib.Core.Path.{◌≡◌, refl}
use mathlib.Core.List.{List}
use Prim.Native.Nat.{ℕ, ◌<◌, ◌^◌}
use native.Mathlib.Nat.{lt_of_le_of_lt}
use native.Mathlib.Omega.{arith}
use borrow.Author.Count.{below_more}
use lib.ListN.{length, get_or-eq_default}
use lib.Pow.{pow_pos}
use Rattle.laws.proofs.First.{is_none}
use Rattle.sheet.specs.Fields.{count, width, nth, bad_at, first_bad}
use Rattle.sheet.specs.Packing.{Narrow}
use Rattle.sheet.specs.Sheets.{figures_of}
use Rattle.sheet.specs.declared.Sheet.{Sheet}
use Rattle.sheet.proofs.fields.Rules.{Fine, not_bad}
use Rattle.sheet.proofs.bits.Widths.{greatest_fits}

pub fine : (figures : List ℕ) → first_bad figures ≡ 0 → (k : ℕ) → k < count → Fine figures k
unfolding first_bad
fine figures e k h = not_bad figures k (is_none (bad_at figures) count e k h)

pub fine_narrow : (figures : List ℕ) → first_bad figures ≡ 0 → nth figures count ≡ 0 → Narrow figures
unfolding Narrow
fine_narrow figures e z k h =
    below_more (λ (j : ℕ). nth figures j < 2 ^ width j) count
    (λ j l. lt_of_le_of_lt (fine figures e j l).high (greatest_fits j l))
    (rw z (pow_pos (width count))) k (omega arith)

-- past the figures of the fields there is none
pub figures_end : (figures : List ℕ) → length figures ≡ count → nth figures count ≡ 0
figures_end figures l = get_or-eq_default figures 0 (omega arith)

-- a sheet has none past them either
pub figures_spare : (s : Sheet) → nth (figures_of s) count ≡ 0
unfolding figures_of
figures_spare s = refl
