-- Pairs of sheets that are computed: that they differ in one field, by one test over all fields, and what the starred cases give of their designs.
use Rattle.std.specs.Prelude.{Result, Ok, Err}
use mathlib.Core.Path.{◌≡◌, refl}
use mathlib.Core.Bool.{Bool, true, false, ◌||◌}
use mathlib.Core.List.{List, []}
use mathlib.Core.Logic.{◌≢◌}
use Prim.Native.Nat.{ℕ, suc, ◌≤◌}
use native.Mathlib.Omega.{arith}
use borrow.Author.Tests.{eqb-true}
use lib.Dec.{T, eqb→eq}
use lib.IntN.{ℤ, pos, negsuc}
use lib.ListN.{get_or}
use Rattle.laws.specs.Choice.{◌=ᵇ◌}
use Rattle.laws.specs.Every.{every}
use Rattle.laws.proofs.Every.{every_at}
use Rattle.sheet.specs.Fields.{count}
use Rattle.design.specs.Harder.{figure_in}
use Rattle.design.specs.Growth.{cut_in}
use Rattle.design.specs.Numbers.{code_of, numbers_of}
use Rattle.design.specs.declared.Reason.{Reason}
use Rattle.design.specs.declared.Figures.{Figures}

-- the figures of two sheets agree, but for one field
abbrev pub agrees : ℕ → List ℕ → List ℕ → ℕ → Bool
agrees k easy hard j = (j =ᵇ k) || (figure_in easy j =ᵇ figure_in hard j)

pub else_equal : (k : ℕ) (easy hard : List ℕ) → T (every (suc count) (agrees k easy hard))
    → (j : ℕ) → 1 ≤ j → j ≤ count → j ≢ k → figure_in easy j ≡ figure_in hard j
else_equal k easy hard t j low high other = go (j =ᵇ k) refl (every_at (suc count) (agrees k easy hard) t j (omega arith))
  where
    go : (b : Bool) → (j =ᵇ k) ≡ b → T (b || (figure_in easy j =ᵇ figure_in hard j)) → figure_in easy j ≡ figure_in hard j
    go true e agree = absurd (other (eqb-true j k e))
    go false e agree = eqb→eq (figure_in easy j) (figure_in hard j) agree

-- a number of a design; the numbers of the design that stands at a place of a list, counted from 0, and one of them
abbrev natural : ℤ → ℕ
natural (pos n) = n
natural (negsuc n) = 0

abbrev pub number_in : ℕ → List ℤ → ℕ
number_in k numbers = natural (get_or numbers k (pos 0))

abbrev pub numbers_at : ℕ → List (List ℤ) → List ℤ
numbers_at place designs = get_or designs place []

abbrev pub number_at : ℕ → ℕ → List (List ℤ) → ℕ
number_at place k designs = number_in k (numbers_at place designs)

pub code_is : (a : Result Figures Reason) → number_in 0 (numbers_of a) ≡ code_of a
unfolding numbers_of
code_is (Ok f) = refl
code_is (Err r) = refl

pub cut_is : (a : Result Figures Reason) → number_in 5 (numbers_of a) ≡ cut_in a
unfolding numbers_of
cut_is (Ok f) = refl
cut_is (Err r) = refl
