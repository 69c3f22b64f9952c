-- `texts::steps::accepted_in` meets its contract: each way out is a case of how the figure stands.
use Rattle.std.specs.Prelude.{Err}
use mathlib.Core.Path.{◌≡◌, refl, ◌∙◌}
use mathlib.Core.List.{List}
use Prim.Native.Nat.{ℕ}
use borrow.Author.Tests.{lt-ltb, le-ltb}
use Rattle.sheet.specs.declared.FieldFault.{FieldFault}
use Rattle.sheet.specs.declared.FieldFault.TheVariants.{Outside, Disagrees}
use Rattle.texts.specs.Steps.{refused_by, told_of_field, accepted_by, accepted_in}
use Rattle.texts.proofs.steps.accepted_in.Goals as goal

refused : (fault : FieldFault) (figures : List ℕ) (k : ℕ) → refused_by figures (told_of_field fault) k ≡ accepted_by (Err fault) figures k
refused Outside figures k = refl
refused Disagrees figures k = refl

pub returns-in-Err : goal.returns-in-Err
unfolding accepted_in
returns-in-Err c =
    rw (← c.field_of.ensures, ← c.standing_of.ensures, c.in-Err.is) ((rw c.told_of_field.ensures at c.refused_by.ensures) ∙ refused _ _ _)

pub returns-then-k-lt27 : goal.returns-then-k-lt27
unfolding accepted_in
returns-then-k-lt27 c = rw (← c.field_of.ensures, ← c.standing_of.ensures, c.in_default.is, lt-ltb _ _ c.if-k-lt27.true)

pub returns : goal.returns
unfolding accepted_in
returns c = rw (← c.field_of.ensures, ← c.standing_of.ensures, c.in_default.is, le-ltb _ _ c.if-k-lt27.false)
