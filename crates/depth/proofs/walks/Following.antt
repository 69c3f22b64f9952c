-- The tries are those that follow the worksheet until it stays: the bound of two moves cuts nothing off, and no other tries follow it.
use mathlib.Core.Path.{◌≡◌, refl, sym, ap, subst, ◌∙◌}
use mathlib.Core.Bool.{Bool, true, false}
use mathlib.Core.List.{List, [], ◌∷◌}
use Prim.Native.Nat.{ℕ, zero, suc}
use Rattle.laws.proofs.Never.{never}
use Rattle.laws.specs.Choice.{ifᵇ◌then◌else◌}
use Rattle.depth.specs.declared.Column.{Column}
use Rattle.depth.specs.declared.Try.{Try}
use Rattle.depth.specs.Worksheet.{moves_on, walk, last_try, Followed}
use Rattle.depth.proofs.walks.Tries.{last_later}

module _ (line : Column → Try) where
  -- a column that moves, in front of tries that are followed from the column its figure falls in
  followed_later : (c : Column) → moves_on (line c) ≡ true → (l : List Try) → Followed line (line c).falls_in l → Followed line c (line c ∷ l)
  followed_later c e [] f = absurd f
  followed_later c e (t ∷ l) f = (refl, e, f)

  pub walk_followed : (often : ℕ) (c : Column) → moves_on (last_try (walk line often c)) ≡ false → Followed line c (walk line often c)
  unfolding walk
  walk_followed zero c e = (refl, e)
  walk_followed (suc often) c e = go (moves_on (line c)) refl (walk_followed often (line c).falls_in) e
    where
      go : (b : Bool) → moves_on (line c) ≡ b
          → (moves_on (last_try (walk line often (line c).falls_in)) ≡ false → Followed line (line c).falls_in (walk line often (line c).falls_in))
          → moves_on (last_try (line c ∷ (ifᵇ b then walk line often (line c).falls_in else []))) ≡ false
          → Followed line c (line c ∷ (ifᵇ b then walk line often (line c).falls_in else []))
      go true m r p =
          followed_later c m (walk line often (line c).falls_in) (r (rw (last_later (line c) line often (line c).falls_in) at p))
      go false m r p = (refl, m)

  pub one_following : (c : Column) (l m : List Try) → Followed line c l → Followed line c m → l ≡ m
  one_following c [] m f g = absurd f
  one_following c (t ∷ l) [] f g = absurd g
  one_following c (t ∷ []) (u ∷ []) f g = let e : t ≡ u = f.0 ∙ sym g.0 in rw e
  one_following c (t ∷ []) (u ∷ (w ∷ m)) f g =
      let e : true ≡ false = sym g.1 ∙ ap moves_on (g.0 ∙ sym f.0) ∙ f.1 in
      never cc
  one_following c (t ∷ (v ∷ l)) (u ∷ []) f g =
      let e : true ≡ false = sym f.1 ∙ ap moves_on (f.0 ∙ sym g.0) ∙ g.1 in
      never cc
  one_following c (t ∷ (v ∷ l)) (u ∷ (w ∷ m)) f g =
      let e : t ≡ u = f.0 ∙ sym g.0 in
      let r : v ∷ l ≡ w ∷ m =
      one_following t.falls_in (v ∷ l) (w ∷ m) f.2 (subst (λ (x : Try). Followed line x.falls_in (w ∷ m)) (sym e) g.2) in
      cc
