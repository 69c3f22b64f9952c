-- Two speeds by their weights: how many parts they come to, when that is missing, and the most that it can be.
use Rattle.std.specs.Prelude.{Option, Some, None}
use mathlib.Core.Path.{◌≡◌, refl, ap, ap₂, sym, ◌∙◌}
use mathlib.Core.Logic.{◌⊎◌, inl, inr, ⊎_map, ◌≢◌}
use Prim.Native.Nat.{ℕ, zero, suc, ◌+◌, ◌*◌, ◌≤◌, ◌<◌}
use native.Mathlib.Nat.{add-zero, zero-add, mul-le-mul_left}
use native.Mathlib.Omega.{arith}
use borrow.Author.Tests.{eq-eqb, ne_eqb}
use Rattle.speed.specs.Lines.{parts_of, times, part, together, weighed}

-- a speed is known, unless that it is missing were absurd
known_unless : (s : Option ℕ) → (s ≡ None → ◌≡◌ {A = ℕ} 0 1) → (m : ℕ) × (s ≡ Some m)
known_unless (Some m) never = (m, refl)
known_unless None never = let z = never refl in absurd (omega arith)

-- as many times two numbers, of which nothing is asked where that is none
product_same : (a u v : ℕ) → (0 < a → u ≡ v) → a * u ≡ a * v
product_same zero u v h = omega arith
product_same (suc a) u v h = ap (λ (n : ℕ). suc a * n) (h (omega arith))

pub product_most : (a u v : ℕ) → (0 < a → u ≤ v) → a * u ≤ a * v
product_most zero u v h = omega arith
product_most (suc a) u v h = mul-le-mul_left (suc a) (h (omega arith))

-- so many times a speed
pub times_parts : (a : ℕ) (s : Option ℕ) → parts_of (times a s) ≡ a * parts_of s
times_parts a (Some n) = refl
times_parts a None = omega arith

pub times_from : (a : ℕ) (s : Option ℕ) (u : ℕ) → ((m : ℕ) → s ≡ Some m → m ≡ u) → (n : ℕ) → times a s ≡ Some n → n ≡ a * u
times_from a (Some m) u from n e = cc (from m refl)
times_from a None u from n e = cc

pub times_missing : (a : ℕ) (s : Option ℕ) → times a s ≡ None → s ≡ None
times_missing a (Some n) e = let z : ◌≡◌ {A = ℕ} 0 1 = cc in absurd (omega arith)
times_missing a None e = refl

pub times_thrice : (a b c : ℕ) (s : Option ℕ) → times a (times b (times c s)) ≡ times (a * b * c) s
times_thrice a b c (Some n) = ap Some (omega arith)
times_thrice a b c None = refl

-- a speed without weight is no part, and one with weight that many times itself
pub part_none : (a : ℕ) (x : Option ℕ) → a ≡ 0 → part a x ≡ Some 0
unfolding part
part_none a x none = rw (eq-eqb a 0 none)

pub part_some : (a : ℕ) (x : Option ℕ) → a ≢ 0 → part a x ≡ times a x
unfolding part
part_some a x some = rw (ne_eqb a 0 some)

pub part_parts : (a : ℕ) (x : Option ℕ) → parts_of (part a x) ≡ a * parts_of x
part_parts zero x = ap parts_of (part_none 0 x refl) ∙ omega arith
part_parts (suc a) x = ap parts_of (part_some (suc a) x (λ e. omega arith)) ∙ times_parts (suc a) x

part_missing : (a : ℕ) (x : Option ℕ) → part a x ≡ None → (0 < a) × (x ≡ None)
part_missing zero x e = let z : ◌≡◌ {A = ℕ} 0 1 = cc (part_none 0 x refl) in absurd (omega arith)
part_missing (suc a) (Some n) e = let z : ◌≡◌ {A = ℕ} 0 1 = cc (part_some (suc a) (Some n) (λ e. omega arith)) in absurd (omega arith)
part_missing (suc a) None e = (omega arith, refl)

part_same : (a : ℕ) (x y : Option ℕ) → (0 < a → x ≡ y) → part a x ≡ part a y
part_same zero x y same = part_none 0 x refl ∙ sym (part_none 0 y refl)
part_same (suc a) x y same = ap (part (suc a)) (same (omega arith))

missing_part : (a : ℕ) (x : Option ℕ) → 0 < a → x ≡ None → part a x ≡ None
missing_part a x h e = part_some a x (λ e. omega arith) ∙ ap (times a) e

-- two parts together
together_known : (s t : Option ℕ) (n : ℕ) → together s t ≡ Some n → n ≡ parts_of s + parts_of t
together_known (Some a) (Some b) n e = cc
together_known (Some a) None n e = cc
together_known None t n e = cc

together_missing : (s t : Option ℕ) → together s t ≡ None → (s ≡ None) ⊎ (t ≡ None)
together_missing (Some a) (Some b) e = let z : ◌≡◌ {A = ℕ} 0 1 = cc in absurd (omega arith)
together_missing (Some a) None e = inr refl
together_missing None t e = inl refl

together_far : (s : Option ℕ) → together s None ≡ None
together_far (Some a) = refl
together_far None = refl

together_none : (s : Option ℕ) → together s (Some 0) ≡ s
together_none (Some a) = ap Some (add-zero a)
together_none None = refl

none_together : (s : Option ℕ) → together (Some 0) s ≡ s
none_together (Some a) = ap Some (zero-add a)
none_together None = refl

together_most : (s t : Option ℕ) → parts_of (together s t) ≤ parts_of s + parts_of t
together_most (Some a) (Some b) = omega arith
together_most (Some a) None = omega arith
together_most None t = omega arith

module _ (a : ℕ) (x : Option ℕ) (b : ℕ) (y : Option ℕ) where
  pub weighed_most : (m : ℕ) → parts_of x ≤ m → parts_of y ≤ m → parts_of (weighed a x b y) ≤ (a + b) * m
  unfolding weighed
  weighed_most m p q =
      omega (arith, together_most (part a x) (part b y), part_parts a x, part_parts b y, mul-le-mul_left a p, mul-le-mul_left b q)

  pub weighed_known : (n : ℕ) → weighed a x b y ≡ Some n → n ≡ a * parts_of x + b * parts_of y
  unfolding weighed
  weighed_known n e = omega (arith, together_known (part a x) (part b y) n e, part_parts a x, part_parts b y)

  pub weighed_missing : weighed a x b y ≡ None → ((0 < a) × (x ≡ None)) ⊎ ((0 < b) × (y ≡ None))
  unfolding weighed
  weighed_missing e = ⊎_map (part_missing a x) (part_missing b y) (together_missing (part a x) (part b y) e)

  pub near_missing : 0 < a → x ≡ None → weighed a x b y ≡ None
  unfolding weighed
  near_missing h e = rw (missing_part a x h e) refl

  pub far_missing : 0 < b → y ≡ None → weighed a x b y ≡ None
  unfolding weighed
  far_missing h e = rw (missing_part b y h e) (together_far (part a x))

  -- a speed with weight is known where the whole is
  near_known : (n : ℕ) → weighed a x b y ≡ Some n → 0 < a → (m : ℕ) × (x ≡ Some m)
  near_known n e h = known_unless x (λ gone. cc (near_missing h gone))

  far_known : (n : ℕ) → weighed a x b y ≡ Some n → 0 < b → (m : ℕ) × (y ≡ Some m)
  far_known n e h = known_unless y (λ gone. cc (far_missing h gone))

  -- the parts by what the speeds with weight come to
  pub weighed_from : (u v : ℕ) → (0 < a → (m : ℕ) → x ≡ Some m → m ≡ u) → (0 < b → (m : ℕ) → y ≡ Some m → m ≡ v)
      → (n : ℕ) → weighed a x b y ≡ Some n → n ≡ a * u + b * v
  weighed_from u v near far n e =
      weighed_known n e
      ∙ ap₂ ◌+◌ (product_same a _ _ (λ h. let (m, known) = near_known n e h in ap parts_of known ∙ near h m known))
      (product_same b _ _ (λ h. let (m, known) = far_known n e h in ap parts_of known ∙ far h m known))

-- only the speeds with weight count
pub weighed_same : (a : ℕ) (x x' : Option ℕ) (b : ℕ) (y y' : Option ℕ) → (0 < a → x ≡ x') → (0 < b → y ≡ y')
    → weighed a x b y ≡ weighed a x' b y'
unfolding weighed
weighed_same a x x' b y y' near far = ap₂ together (part_same a x x' near) (part_same b y y' far)

pub weighed_alone : (a : ℕ) (x y : Option ℕ) → 0 < a → weighed a x 0 y ≡ times a x
unfolding weighed
weighed_alone a x y h = ap₂ together (part_some a x (λ e. omega arith)) (part_none 0 y refl) ∙ together_none (times a x)

pub weighed_next : (x : Option ℕ) (b : ℕ) (y : Option ℕ) → 0 < b → weighed 0 x b y ≡ times b y
unfolding weighed
weighed_next x b y h = ap₂ together (part_none 0 x refl) (part_some b y (λ e. omega arith)) ∙ none_together (times b y)

-- two speeds are one where both or neither are missing, and their parts agree
pub same_speed : (s t : Option ℕ) → (s ≡ None → t ≡ None) → (t ≡ None → s ≡ None)
    → ((m n : ℕ) → s ≡ Some m → t ≡ Some n → m ≡ n) → s ≡ t
same_speed (Some m) (Some n) there back same = ap Some (same m n refl refl)
same_speed (Some m) None there back same = back refl
same_speed None t there back same = sym (there refl)
