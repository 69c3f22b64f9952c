-- A kind that a match left over is not the one it took.
use mathlib.Core.Path.{◌≡◌}
use mathlib.Core.List.{[], ◌∷◌}
use types.Run.{OneOf, miss}
use denote.Enum.Declared.{tag_of}
use Rattle.typed.specs.declared.Kind.{Kind}
use Rattle.typed.specs.declared.Kind.TheVariants.{Words, Level}
use Rattle.typed.specs.contracts.Kind.{the_type}

module _ (kind : Kind) where
  pub not_words : OneOf (0 ∷ 1 ∷ 2 ∷ 4 ∷ []) (tag_of the_type kind) → kind ≡ Words → ⊥
  not_words k e = miss (0 ∷ 1 ∷ 2 ∷ 4 ∷ []) 3 tt (rw e at k)

  pub not_level : OneOf (0 ∷ 1 ∷ 2 ∷ 3 ∷ []) (tag_of the_type kind) → kind ≡ Level → ⊥
  not_level k e = miss (0 ∷ 1 ∷ 2 ∷ 3 ∷ []) 4 tt (rw e at k)
