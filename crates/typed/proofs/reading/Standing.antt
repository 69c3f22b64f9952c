-- A text at the front of bytes, byte by byte.
use mathlib.Core.Path.{◌≡◌, refl}
use mathlib.Core.Bool.{Bool, true, false, ◌&&◌}
use mathlib.Core.List.{List, [], ◌∷◌}
use Prim.Native.Nat.{ℕ, ◌≤◌, ◌<◌}
use native.Mathlib.Omega.{arith}
use borrow.Author.Tests.{eqb-true, eqb-false, leb-true, leb-false}
use lib.Dec.{eqb, leb}
use Rattle.std.proofs.Common.{take_all}
use lib.ListN.{length, take}
use lib.Pointwise.{pointwise, pointwise_long}
use Rattle.laws.specs.Choice.{ifᵇ◌then◌else◌}
use Rattle.laws.proofs.Never.{never}
use Rattle.typed.specs.Reading.{stands, same}

-- bytes that are fewer than a text's do not begin with it
pub too_short : (text bytes : List ℕ) → length bytes < length text → stands text bytes ≡ false
unfolding stands
too_short [] bytes h = absurd (omega arith)
too_short (a ∷ text) [] h = refl
too_short (a ∷ text) (b ∷ bytes) h = go (eqb a b) (too_short text bytes (omega arith))
  where
    go : (t : Bool) → stands text bytes ≡ false → (ifᵇ t then stands text bytes else false) ≡ false
    go true e = e
    go false e = refl

pub no_longer : (text bytes : List ℕ) → stands text bytes ≡ true → length text ≤ length bytes
no_longer text bytes e = go (leb (length text) (length bytes)) refl
  where
    go : (t : Bool) → leb (length text) (length bytes) ≡ t → length text ≤ length bytes
    go true h = leb-true _ _ h
    go false h = never (cc (too_short text bytes (leb-false _ _ h)))

-- `starts_with` of a slice asks the same, and `==` whether bytes are a text
pub stands_is : (text bytes : List ℕ) → pointwise eqb text (take (length text) bytes) ≡ stands text bytes
unfolding stands
stands_is [] bytes = refl
stands_is (a ∷ text) [] = refl
stands_is (a ∷ text) (b ∷ bytes) = go (eqb a b) (stands_is text bytes)
  where
    go : (t : Bool) → pointwise eqb text (take (length text) bytes) ≡ stands text bytes
        → (t && pointwise eqb text (take (length text) bytes)) ≡ (ifᵇ t then stands text bytes else false)
    go true e = e
    go false e = refl

pub same_is : (text bytes : List ℕ) → pointwise eqb text bytes ≡ same text bytes
unfolding same
same_is text bytes = go (eqb (length text) (length bytes)) refl
  where
    apart : (t : Bool) → pointwise eqb text bytes ≡ t → (length text ≡ length bytes → ⊥) → t ≡ false
    apart true e other = absurd (other (pointwise_long eqb text bytes e))
    apart false e other = refl

    go : (t : Bool) → eqb (length text) (length bytes) ≡ t → pointwise eqb text bytes ≡ (ifᵇ t then stands text bytes else false)
    go true e =
        let long : length text ≡ length bytes = eqb-true _ _ e in
        rw (take_all (length text) bytes (omega arith)) at (stands_is text bytes)
    go false e = apart (pointwise eqb text bytes) refl (eqb-false _ _ e)
