-- A list of bands rises as its figure grows where each band is no less than the one before it.
use mathlib.Core.Path.{◌≡◌, refl}
use mathlib.Core.Bool.{Bool, true, false}
use Prim.Native.Nat.{ℕ, ◌≤◌}
use native.Mathlib.Omega.{arith}
use borrow.Author.Tests.{ltb-true, leb-true, lt-ltb, le-leb}
use Rattle.laws.proofs.Never.{never}
use Rattle.laws.specs.Choice.{ifᵇ◌then◌else◌, ◌<ᵇ◌, ◌≤ᵇ◌}

-- a test that holds of every smaller figure too: under an end, and to an end
abbrev pub Falls : (ℕ → Bool) → Type 0
Falls test = (x y : ℕ) → x ≤ y → test y ≡ true → test x ≡ true

pub under_falls : (end : ℕ) → Falls (λ (x : ℕ). x <ᵇ end)
under_falls end x y h e = lt-ltb x end (omega (arith, ltb-true y end e))

pub to_falls : (end : ℕ) → Falls (λ (x : ℕ). x ≤ᵇ end)
to_falls end x y h e = le-leb x end (omega (arith, leb-true y end e))

module _ {A : Type 0} (R : A → A → Type 0) (same : (a : A) → R a a) (trans : (a b c : A) → R a b → R b c → R a c) where
  -- f rises with its figure, and is never less than low
  pub record Rises (low : A) (f : ℕ → A) : Type 0 where
    pub rises : (x y : ℕ) → x ≤ y → R (f x) (f y)
    pub above : (x : ℕ) → R low (f x)

  -- the last band, and one more band in front
  pub last_band : (low a : A) → R low a → Rises low (λ x. a)
  last_band low a r = record { rises = λ x y h. same a; above = λ x. r }

  pub next_band : (test : ℕ → Bool) → Falls test → (low a : A) → R low a → (f : ℕ → A) → Rises a f → Rises low (λ x. ifᵇ test x then a else f x)
  next_band test falls low a r f rest = record {
    rises = λ x y h. go (test x) (test y) x y (falls x y h) (rest.rises x y h);
    above = λ x. over (test x) x;
  }
    where
      go : (s t : Bool) (x y : ℕ) → (t ≡ true → s ≡ true) → R (f x) (f y) → R (ifᵇ s then a else f x) (ifᵇ t then a else f y)
      go true true x y i e = same a
      go true false x y i e = rest.above y
      go false true x y i e = let z : false ≡ true = i refl in never cc
      go false false x y i e = e

      over : (t : Bool) (x : ℕ) → R low (ifᵇ t then a else f x)
      over true x = r
      over false x = trans low a (f x) r (rest.above x)
