-- Two sheets of which one has the greater figure in a field: no figure of it is less, and those of the fields that are not moved are the same.
use mathlib.Core.Path.{◌≡◌, refl, sym, subst, ◌∙◌}
use mathlib.Core.Bool.{Bool, true, false, ◌||◌, ◌&&◌, not, true≢false, false≢true}
use mathlib.Core.List.{List}
use mathlib.Core.Logic.{◌≢◌}
use Prim.Native.Nat.{ℕ, ◌≤◌}
use native.Mathlib.Omega.{arith}
use borrow.Author.Tests.{eqb-true, eqb-false, leb-true, not-true}
use lib.Dec.{eqb}
use Rattle.laws.specs.Choice.{◌≤ᵇ◌, ◌=ᵇ◌}
use Rattle.sheet.specs.Fields.{count}
use Rattle.design.specs.Harder.{figure_in, Raised}

-- the fields whose greater figure widens
abbrev pub widens : ℕ → Bool
widens j = (j =ᵇ 4) || ((j =ᵇ 16) || ((j =ᵇ 17) || ((j =ᵇ 18) || (j =ᵇ 19))))

-- those whose greater figure deepens by as many centimetres
abbrev pub weighs : ℕ → Bool
weighs j = (j =ᵇ 2) || (j =ᵇ 8)

-- all whose greater figure makes a sheet harder, the lanes that are named among them
abbrev pub hardens : ℕ → Bool
hardens j = widens j || (weighs j || ((j =ᵇ 3) || ((j =ᵇ 5) || ((j =ᵇ 7) || ((j =ᵇ 9) || (j =ᵇ 11))))))

-- the number of a field, and of one that is not moved
abbrev numbered : ℕ → Bool
numbered j = (1 ≤ᵇ j) && (j ≤ᵇ count)

abbrev unmoved : (ℕ → Bool) → ℕ → Bool
unmoved moved j = numbered j && not (moved j)

-- no figure is less, and those that are not moved are the same
pub record Compared (moved : ℕ → Bool) (easy hard : List ℕ) : Type 0 where
  pub rises : (j : ℕ) → numbered j ≡ true → figure_in easy j ≤ figure_in hard j
  pub same : (j : ℕ) → unmoved moved j ≡ true → figure_in easy j ≡ figure_in hard j

both : (a b : Bool) → (a && b) ≡ true → (a ≡ true) × (b ≡ true)
both true b e = (refl, e)
both false b e = absurd (false≢true e)

module _ (moved : ℕ → Bool) (k : ℕ) (easy hard : List ℕ) (is-moved : moved k ≡ true) (h : Raised k easy hard) where
  else_same : (j : ℕ) → numbered j ≡ true → j ≢ k → figure_in easy j ≡ figure_in hard j
  else_same j e other =
      let t = both _ _ e in
      h.else_equal j (leb-true _ _ t.0) (leb-true _ _ t.1) other

  rises_at : (j : ℕ) → numbered j ≡ true → (t : Bool) → eqb j k ≡ t → figure_in easy j ≤ figure_in hard j
  rises_at j e true is = subst (λ (n : ℕ). figure_in easy n ≤ figure_in hard n) (sym (eqb-true j k is)) (omega (arith, h.greater))
  rises_at j e false other = let equal = else_same j e (eqb-false j k other) in omega arith

  same_at : (j : ℕ) → unmoved moved j ≡ true → figure_in easy j ≡ figure_in hard j
  same_at j e =
      let t = both _ _ e in
      else_same j t.0 (λ is. true≢false (sym (subst (λ (n : ℕ). moved n ≡ true) (sym is) is-moved) ∙ not-true _ t.1))

  pub compared : Compared moved easy hard
  compared = record { rises = λ j e. rises_at j e (eqb j k) refl; same = same_at }
