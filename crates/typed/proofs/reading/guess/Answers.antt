-- `typed::reading::guess` meets its contract: each kind is asked as the definition asks it.
use mathlib.Core.Path.{◌≡◌, refl, ◌∙◌}
use mathlib.Core.List.{List}
use mathlib.Core.Logic.{◌⊎◌, inl, inr}
use Prim.Native.Nat.{ℕ}
use Rattle.typed.specs.Reading.{digits_read, guess_by, guessed}
use Rattle.typed.specs.declared.Kind.{Kind}
use Rattle.typed.specs.declared.Kind.TheVariants.{Whole, Tenths, Hundredths}
use Rattle.typed.proofs.reading.guess.Goals as goal

-- the first three kinds have a number
in_digits : (kind : Kind) (words bytes : List ℕ) → (kind ≡ Whole) ⊎ ((kind ≡ Tenths) ⊎ (kind ≡ Hundredths)) → digits_read 0 bytes ≡ guess_by kind words bytes
in_digits kind words bytes (inl e) = rw e refl
in_digits kind words bytes (inr (inl e)) = rw e refl
in_digits kind words bytes (inr (inr e)) = rw e refl

pub returns-in-Words : goal.returns-in-Words
unfolding guessed
returns-in-Words c = rw c.in-Words.is c.word_guess.ensures

pub returns-in-Level : goal.returns-in-Level
unfolding guessed
returns-in-Level c = rw c.in-Level.is c.level_guess.ensures

pub returns-in-Whole : goal.returns-in-Whole
unfolding guessed
returns-in-Whole c =
    let row = c.args.row in
    c.digits_read.ensures.0 ∙ in_digits row.kind row.words _ c.in-Whole.is
