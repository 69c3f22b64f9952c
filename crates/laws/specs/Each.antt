-- What holds of each one of a list.
use Rattle.std.specs.Prelude.{List, [], ◌∷◌}

abbrev pub Each {ℓ} : {A : Type ℓ} → (A → Type 0) → List A → Type 0
Each P [] = Unit {0}
Each P (x ∷ xs) = P x × Each P xs

infixr 4 ◌&◌
-- one fact after another
abbrev pub ◌&◌ : {A B : Type 0} → A → B → A × B
a & b = (a, b)
