-- A text at the front of bytes: the bytes are the text and what follows it, and two texts that differ stand at the front of no bytes both.
-- By going down the text.
use mathlib.Core.Path.{◌≡◌, refl, ap, sym, ◌∙◌}
use mathlib.Core.Bool.{Bool, true, false}
use mathlib.Core.List.{List, [], ◌∷◌, ◌++◌, append_assoc, append-nil}
use Prim.Native.Nat.{ℕ}
use native.Mathlib.Omega.{arith}
use borrow.Author.Tests.{eq-eqb, eqb-true}
use lib.Dec.{T, eqb}
use lib.ListN.{length, drop}
use Rattle.laws.specs.Choice.{ifᵇ◌then◌else◌, ◌=ᵇ◌}
use Rattle.typed.specs.Reading.{stands, same}

pub stands_front : (text bytes : List ℕ) → stands text bytes ≡ true → bytes ≡ text ++ drop (length text) bytes
unfolding stands
stands_front [] bytes e = refl
stands_front (a ∷ text) [] e = let z : ◌≡◌ {A = ℕ} 0 1 = cc in absurd (omega arith)
stands_front (a ∷ text) (b ∷ bytes) e = go (eqb a b) refl (stands_front text bytes) e
  where
    go : (t : Bool) → eqb a b ≡ t → (stands text bytes ≡ true → bytes ≡ text ++ drop (length text) bytes)
        → (ifᵇ t then stands text bytes else false) ≡ true → b ∷ bytes ≡ a ∷ (text ++ drop (length text) bytes)
    go true q further e = let p : a ≡ b = eqb-true a b q in rw p (ap (λ (l : List ℕ). b ∷ l) (further e))
    go false q further e = let z : ◌≡◌ {A = ℕ} 0 1 = cc in absurd (omega arith)

pub front_stands : (text rest : List ℕ) → stands text (text ++ rest) ≡ true
unfolding stands
front_stands [] rest = refl
front_stands (a ∷ text) rest = rw (eq-eqb a a refl) (front_stands text rest)

-- a text stands where a longer one does, so a longer one fails where it does
pub shorter_stands : (text more bytes : List ℕ) → stands (text ++ more) bytes ≡ true → stands text bytes ≡ true
shorter_stands text more bytes e =
    rw (stands_front (text ++ more) bytes e, append_assoc) (front_stands text (more ++ drop (length (text ++ more)) bytes))

pub longer_fails : (text more bytes : List ℕ) → stands text bytes ≡ false → stands (text ++ more) bytes ≡ false
longer_fails text more bytes e = go (stands (text ++ more) bytes) refl
  where
    go : (b : Bool) → stands (text ++ more) bytes ≡ b → b ≡ false
    go true q = sym (shorter_stands text more bytes q) ∙ e
    go false q = refl

-- bytes that are a text, as the comparison finds them
longer : (text : List ℕ) (bytes : List ℕ) → length text ≡ length bytes → stands text bytes ≡ true → bytes ≡ text
unfolding stands
longer [] [] l e = refl
longer [] (b ∷ bytes) l e = absurd (omega arith)
longer (a ∷ text) [] l e = absurd (omega arith)
longer (a ∷ text) (b ∷ bytes) l e = go (eqb a b) refl (longer text bytes (omega arith)) e
  where
    go : (t : Bool) → eqb a b ≡ t → (stands text bytes ≡ true → bytes ≡ text) → (ifᵇ t then stands text bytes else false) ≡ true
        → b ∷ bytes ≡ a ∷ text
    go true q further e = let p : a ≡ b = eqb-true a b q in rw (p, further e)
    go false q further e = let z : ◌≡◌ {A = ℕ} 0 1 = cc in absurd (omega arith)

pub same_text : (text bytes : List ℕ) → same text bytes ≡ true → bytes ≡ text
unfolding same
same_text text bytes e = go (eqb (length text) (length bytes)) refl e
  where
    go : (t : Bool) → eqb (length text) (length bytes) ≡ t → (ifᵇ t then stands text bytes else false) ≡ true → bytes ≡ text
    go true q e = longer text bytes (eqb-true _ _ q) e
    go false q e = let z : ◌≡◌ {A = ℕ} 0 1 = cc in absurd (omega arith)

pub text_same : (text : List ℕ) → same text text ≡ true
unfolding same
text_same text = rw (eq-eqb (length text) (length text) refl) (rw append-nil at (front_stands text []))

-- two texts that differ before either ends
unfoldable pub differs : List ℕ → List ℕ → Bool
differs [] b = false
differs (x ∷ a) [] = false
differs (x ∷ a) (y ∷ b) = ifᵇ x =ᵇ y then differs a b else true

pub differ_stands : (a b rest : List ℕ) → T (differs a b) → stands a (b ++ rest) ≡ false
unfolding differs stands
differ_stands [] b rest t = absurd t
differ_stands (x ∷ a) [] rest t = absurd t
differ_stands (x ∷ a) (y ∷ b) rest t = go (eqb x y) (differ_stands a b rest) t
  where
    go : (e : Bool) → (T (differs a b) → stands a (b ++ rest) ≡ false) → T (ifᵇ e then differs a b else true)
        → (ifᵇ e then stands a (b ++ rest) else false) ≡ false
    go true further t = further t
    go false further t = refl

-- one of them at the front of bytes leaves no place for the other
pub not_both : (a b bytes : List ℕ) → T (differs a b) → stands b bytes ≡ true → stands a bytes ≡ false
not_both a b bytes t e = rw (stands_front b bytes e) (differ_stands a b (drop (length b) bytes) t)
