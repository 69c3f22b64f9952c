-- What is expected of a row, by its kind.
use mathlib.Core.Path.{◌≡◌, refl}
use Rattle.sheet.specs.declared.Range.{Range}
use Rattle.typed.specs.Lines.{span_text, lines_by, lines_text}
use Rattle.typed.specs.declared.Kind.{Kind}
use Rattle.typed.specs.declared.Kind.TheVariants.{Whole, Tenths, Hundredths, Words, Level}
use Rattle.typed.specs.declared.table.Row.{Row}

span_by : (kind : Kind) (r : Row) (values : Range) → (kind ≡ Words → ⊥) → (kind ≡ Level → ⊥)
    → lines_by kind r values ≡ span_text r values.least values.greatest
span_by Whole r values a b = refl
span_by Tenths r values a b = refl
span_by Hundredths r values a b = refl
span_by Words r values a b = absurd (a refl)
span_by Level r values a b = absurd (b refl)

module _ (r : Row) (values : Range) where
  pub lines_by_lem : {kind : Kind} → r.kind ≡ kind → lines_text r values ≡ lines_by kind r values
  unfolding lines_text
  lines_by_lem e = rw e

  pub lines_span : (r.kind ≡ Words → ⊥) → (r.kind ≡ Level → ⊥) → lines_text r values ≡ span_text r values.least values.greatest
  unfolding lines_text
  lines_span = span_by r.kind r values
