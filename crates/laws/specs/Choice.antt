-- Choosing by a test, and the tests of two whole numbers.
use Rattle.std.specs.Prelude.{ℕ, Bool, true, false, leb, ltb, eqb}

infix 1 ifᵇ◌then◌else◌
infix 4 ◌≤ᵇ◌ ◌<ᵇ◌ ◌=ᵇ◌
-- one of two by a test
abbrev pub ifᵇ◌then◌else◌ {ℓ} : {A : Type ℓ} → Bool → A → A → A
ifᵇ◌then◌else◌ true a b = a
ifᵇ◌then◌else◌ false a b = b

abbrev pub ◌≤ᵇ◌ : ℕ → ℕ → Bool
◌≤ᵇ◌ = leb

abbrev pub ◌<ᵇ◌ : ℕ → ℕ → Bool
◌<ᵇ◌ = ltb

abbrev pub ◌=ᵇ◌ : ℕ → ℕ → Bool
◌=ᵇ◌ = eqb
