-- The fold over a route's ship classes ends at the smallest of them.
use mathlib.Core.Path.{◌≡◌, refl, ◌∙◌}
use mathlib.Core.Bool.{Bool, true, false}
use mathlib.Core.List.{List, [], ◌∷◌, ◌++◌, foldl, foldl-append, Memᴰ}
use mathlib.Core.Logic.{◌⊎◌, inl, inr}
use Prim.Native.Nat.{ℕ, ◌≤◌}
use native.Mathlib.Nat.{le_refl, le_trans}
use native.Mathlib.Omega.{arith}
use borrow.Author.Tests.{ltb-true, ltb-false}
use lib.Dec.{ltb}
use Rattle.laws.specs.Choice.{ifᵇ◌then◌else◌}
use Rattle.laws.specs.Extremes.{Least}
use Rattle.class.specs.Classes.{with_ship, route_class}

-- one more stretch: the result is one of the two, and at most both
record Smaller (route ship r : ℕ) : Type 0 where
  one : (r ≡ route) ⊎ (r ≡ ship)
  to_route : r ≤ route
  to_ship : r ≤ ship

with_ship_lem : (route ship : ℕ) → Smaller route ship (with_ship route ship)
unfolding with_ship
with_ship_lem route ship = go (ltb ship route) refl
  where
    go : (b : Bool) → ltb ship route ≡ b → Smaller route ship (ifᵇ b then ship else route)
    go true e = record { one = inr refl; to_route = omega (arith, ltb-true ship route e); to_ship = le_refl ship }
    go false e = record { one = inl refl; to_route = le_refl route; to_ship = ltb-false ship route e }

-- the fold, from any class that the route has so far
fold_to_start : (b : ℕ) (ships : List ℕ) → foldl with_ship b ships ≤ b
fold_to_start b [] = le_refl b
fold_to_start b (x ∷ ships) = le_trans (fold_to_start (with_ship b x) ships) (with_ship_lem b x).to_route

fold_to_each : (b : ℕ) (ships : List ℕ) (k : ℕ) → Memᴰ k ships → foldl with_ship b ships ≤ k
fold_to_each b [] k m = elim m [ ]
fold_to_each b (x ∷ ships) k (Memᴰ.head e) = omega (arith, fold_to_start (with_ship b x) ships, (with_ship_lem b x).to_ship)
fold_to_each b (x ∷ ships) k (Memᴰ.tail m) = fold_to_each (with_ship b x) ships k m

fold_one : (b : ℕ) (ships : List ℕ) → (foldl with_ship b ships ≡ b) ⊎ Memᴰ (foldl with_ship b ships) ships
fold_one b [] = inl refl
fold_one b (x ∷ ships) = go (fold_one (with_ship b x) ships) (with_ship_lem b x).one
  where
    go : (foldl with_ship (with_ship b x) ships ≡ with_ship b x) ⊎ Memᴰ (foldl with_ship (with_ship b x) ships) ships
        → (with_ship b x ≡ b) ⊎ (with_ship b x ≡ x)
        → (foldl with_ship (with_ship b x) ships ≡ b) ⊎ Memᴰ (foldl with_ship (with_ship b x) ships) (x ∷ ships)
    go (inr m) w = inr (Memᴰ.tail m)
    go (inl e) (inl w) = inl (e ∙ w)
    go (inl e) (inr w) = inr (Memᴰ.head (e ∙ w))

pub smallest : (ships : List ℕ) → ((k : ℕ) → Memᴰ k ships → k ≤ 4) → (some : ℕ) → Memᴰ some ships
    → Least (λ (k : ℕ). Memᴰ k ships) (route_class ships)
smallest ships within some m = record { holds = go (fold_one 5 ships); least = fold_to_each 5 ships }
  where
    go : (route_class ships ≡ 5) ⊎ Memᴰ (route_class ships) ships → Memᴰ (route_class ships) ships
    go (inl e) = absurd (omega (arith, e, fold_to_each 5 ships some m, within some m))
    go (inr n) = n

pub one_more : (ships : List ℕ) (ship : ℕ) → route_class (ships ++ (ship ∷ [])) ≡ with_ship (route_class ships) ship
one_more ships ship = foldl-append with_ship 5 ships (ship ∷ [])
