-- What an equation with a definition leaves open: nothing.
use mathlib.Core.Path.{◌≡◌, sym, ◌∙◌}

-- two results that both meet `r ≡ defined` are one
pub one_answer {ℓ} : {A : Type ℓ} {defined : A} (r s : A) → r ≡ defined → s ≡ defined → r ≡ s
one_answer r s p q = p ∙ sym q
