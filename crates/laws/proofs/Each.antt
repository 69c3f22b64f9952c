-- What holds of each one of a list holds of its parts, its members and their images, by going down the list.
use mathlib.Core.Path.{subst, sym}
use mathlib.Core.List.{List, [], ◌∷◌, ◌++◌, map, Memᴰ}
use Rattle.laws.specs.Each.{Each}

module _ {A : Type 0} (P : A → Type 0) where
  pub each_append : (first second : List A) → Each P first → Each P second → Each P (first ++ second)
  each_append [] second p q = q
  each_append (x ∷ first) second p q = (p.0, each_append first second p.1 q)

  pub each_member : (a : A) (xs : List A) → Each P xs → Memᴰ a xs → P a
  each_member a [] p m = elim m [ ]
  each_member a (x ∷ xs) p (Memᴰ.head e) = subst P (sym e) p.0
  each_member a (x ∷ xs) p (Memᴰ.tail m) = each_member a xs p.1 m

-- of each one's image
pub each_map : {A B : Type 0} (P : A → Type 0) (Q : B → Type 0) (f : A → B) → ((x : A) → P x → Q (f x)) → (xs : List A) → Each P xs → Each Q (map f xs)
each_map P Q f step [] p = tt
each_map P Q f step (x ∷ xs) p = (step x p.0, each_map P Q f step xs p.1)

-- where one fact brings the other
pub each_implied : {A : Type 0} (P Q : A → Type 0) → ((x : A) → P x → Q x) → (xs : List A) → Each P xs → Each Q xs
each_implied P Q step [] p = tt
each_implied P Q step (x ∷ xs) p = (step x p.0, each_implied P Q step xs p.1)
