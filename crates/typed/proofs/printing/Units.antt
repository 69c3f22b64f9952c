-- The unit behind a figure.
use mathlib.Core.Path.{◌≡◌, refl}
use mathlib.Core.List.{List, [], ◌∷◌}
use Prim.Native.Nat.{ℕ}
use borrow.Author.Tests.{eq-eqb, ne_eqb}
use lib.ListN.{get_or}
use Rattle.lines.specs.Lines.{space}
use Rattle.typed.specs.Lines.{token, behind, unit_by, unit_text}
use Rattle.typed.specs.declared.Kind.{Kind}
use Rattle.typed.specs.declared.Kind.TheVariants.{Whole, Tenths, Hundredths, Words, Level}
use Rattle.typed.specs.declared.table.Row.{Row}

-- a space is put in front of a unit that is there
module _ (unit : List ℕ) where
  pub behind_none : get_or unit 0 0 ≡ space → behind unit ≡ []
  unfolding behind
  behind_none e = rw (eq-eqb (get_or unit 0 0) space e)

  pub behind_some : (get_or unit 0 0 ≡ space → ⊥) → behind unit ≡ space ∷ token unit
  unfolding behind
  behind_some other = rw (ne_eqb (get_or unit 0 0) space other)

unit_some : (kind : Kind) (unit : List ℕ) (n : ℕ) → (n ≡ 0 → ⊥) → unit_by kind unit n ≡ behind unit
unit_some Whole unit n other = refl
unit_some Tenths unit n other = refl
unit_some Hundredths unit n other = refl
unit_some Words unit n other = refl
unit_some Level unit n other = rw (ne_eqb n 0 other)

unit_plain : (kind : Kind) (unit : List ℕ) (n : ℕ) → (kind ≡ Level → ⊥) → unit_by kind unit n ≡ behind unit
unit_plain Whole unit n other = refl
unit_plain Tenths unit n other = refl
unit_plain Hundredths unit n other = refl
unit_plain Words unit n other = refl
unit_plain Level unit n other = absurd (other refl)

-- a level off the record has no unit; another figure has its row's, and so has a row of another kind
module _ (r : Row) (n : ℕ) where
  pub record_unit : r.kind ≡ Level → n ≡ 0 → unit_text r n ≡ []
  unfolding unit_text
  record_unit e z = rw (e, z)

  pub given_unit : (n ≡ 0 → ⊥) → unit_text r n ≡ behind r.unit
  unfolding unit_text
  given_unit other = unit_some r.kind r.unit n other

  pub plain_unit : (r.kind ≡ Level → ⊥) → unit_text r n ≡ behind r.unit
  unfolding unit_text
  plain_unit other = unit_plain r.kind r.unit n other
