-- Bytes copied one by one, up to the first space of a place of the table.
use mathlib.Core.Path.{◌≡◌, ◌∙◌}
use mathlib.Core.List.{List, ◌++◌, append_assoc, append-nil}
use Prim.Native.Nat.{ℕ, ◌+◌, ◌≤◌, ◌<◌}
use native.Mathlib.Numerals.{add-one}
use borrow.Author.Tests.{eq-eqb, ne_eqb}
use lib.ListN.{length, take, drop, get_or, drop_of_length-le}
use lib.Seq.{take-suc, drop-cons}
use Rattle.lines.specs.Lines.{space}
use Rattle.typed.specs.Lines.{token}

-- no space stands among the first j bytes of a place of the table
abbrev pub Inside : List ℕ → ℕ → Type 0
Inside slot j = token slot ≡ take j slot ++ token (drop j slot)

module _ (slot : List ℕ) (j : ℕ) (inside : Inside slot j) where
  pub further_inside : j < length slot → (get_or slot j 0 ≡ space → ⊥) → Inside slot (j + 1)
  unfolding token
  further_inside h other = inside ∙ rw (drop-cons slot j 0 h, ne_eqb _ _ other, add-one, take-suc slot j 0 h, append_assoc)

  pub ends_at_space : j < length slot → get_or slot j 0 ≡ space → token slot ≡ take j slot
  unfolding token
  ends_at_space h same = inside ∙ rw (drop-cons slot j 0 h, eq-eqb _ _ same, append-nil)

  pub ends_with_slot : length slot ≤ j → token slot ≡ take j slot
  unfolding token
  ends_with_slot h = inside ∙ rw (drop_of_length-le slot h, append-nil)
