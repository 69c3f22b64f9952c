-- Sheets taken from blocks, whatever each puts: a sheet more, no block yet, and a block more. By the laws of blocks, and of sheets in two parts.
use mathlib.Core.Path.{◌≡◌, refl, sym, ap, ◌∙◌}
use mathlib.Core.List.{List, [], ◌∷◌, ◌++◌}
use Prim.Native.Nat.{ℕ, ◌*◌, ◌≤◌, ◌<◌, min}
use native.Mathlib.Omega.{arith}
use lib.ListN.{length, take}
use Rattle.channel.specs.Input.{Filling, SoFar, ToItsEnd}
use Rattle.channel.specs.Text.{sheets_of}
use Rattle.channel.specs.Printing.{input_block, counted_by, printed_count}
use Rattle.channel.specs.declared.input.Filled.{Filled}
use Rattle.channel.specs.declared.input.Stop.{Stop}
use Rattle.channel.specs.declared.input.Stop.TheVariants.{Full, Ended, Failed}
use Rattle.channel.proofs.Blocks.{none_yet, goes_on, ends}
use Rattle.channel.proofs.Cuts.{first_cut, no_sheet, in_two}

-- what sheets put: nothing where there is none, and in two parts first those of the one and then those of the other
pub record Putting (S : Type 0) : Type 0 where
  pub put : List (List ℕ) → S → S
  pub none : (p : S) → put [] p ≡ p
  pub in_turn_lem : (first second : List (List ℕ)) (p : S) → put (first ++ second) p ≡ put second (put first p)

-- no more is taken than was filled, and all of it where no read failed
pub taken_within : (filled : Filled) → printed_count filled ≤ filled.count
taken_within filled = go filled.stop
  where
    go : (stop : Stop) → counted_by stop filled.count ≤ filled.count
    go Full = omega arith
    go Ended = omega arith
    go (Failed error) = omega arith

module _ {S : Type 0} (t : Putting S) where
  -- the sheets of some bytes
  abbrev pub put_of : List ℕ → S → S
  put_of bytes p = t.put (sheets_of bytes) p

  pub no_bytes : (bytes : List ℕ) (p : S) → length bytes ≡ 0 → put_of bytes p ≡ p
  no_bytes bytes p e = ap (λ (sheets : List (List ℕ)). t.put sheets p) (no_sheet bytes e) ∙ t.none p

  -- the first of what is left, as the library cuts it off, and then those behind it
  pub sheet_more : (rest sheet behind : List ℕ) (p q : S) → rest ≡ sheet ++ behind → length sheet ≡ min 28 (length rest) → 0 < length rest
      → q ≡ t.put (sheet ∷ []) p → put_of behind q ≡ put_of rest p
  sheet_more rest sheet behind p q parts long some e =
      ap (t.put (sheets_of behind)) e
      ∙ sym (t.in_turn_lem (sheet ∷ []) (sheets_of behind) p)
      ∙ ap (λ (sheets : List (List ℕ)). t.put sheets p) (sym (first_cut rest sheet behind parts long some))

  -- one block more
  module _ (p : S) where
    pub begun : SoFar input_block (λ (bytes : List ℕ). p ≡ put_of bytes p)
    begun = none_yet input_block (λ (bytes : List ℕ). p ≡ put_of bytes p) (sym (no_bytes [] p refl))

    module _ (q r : S) (filled : Filled) (space : List ℕ) (filling : Filling filled input_block) (as_long : length space ≡ input_block)
        (e : r ≡ put_of (take (printed_count filled) space) q) where
      block_behind : printed_count filled ≡ filled.count → (bytes : List ℕ) (n : ℕ) → length bytes ≡ n * input_block → q ≡ put_of bytes p
          → r ≡ put_of (bytes ++ take filled.count space) p
      block_behind all bytes n whole so_far =
          let these = take filled.count space in
          e
          ∙ ap (λ (k : ℕ). put_of (take k space) q) all
          ∙ ap (put_of these) so_far
          ∙ sym (t.in_turn_lem (sheets_of bytes) (sheets_of these) p)
          ∙ ap (λ (sheets : List (List ℕ)). t.put sheets p) (sym (in_two (n * 2340) bytes these (omega arith)))

      pub taken_on : filled.stop ≡ Full → SoFar input_block (λ (bytes : List ℕ). q ≡ put_of bytes p) → SoFar input_block (λ (bytes : List ℕ). r ≡ put_of bytes p)
      taken_on full =
          goes_on input_block (λ (bytes : List ℕ). q ≡ put_of bytes p) (λ (bytes : List ℕ). r ≡ put_of bytes p) filled space filling as_long
          (block_behind (rw full refl)) full

      pub taken_whole : filled.stop ≡ Ended → SoFar input_block (λ (bytes : List ℕ). q ≡ put_of bytes p) → ToItsEnd input_block (λ (bytes : List ℕ). r ≡ put_of bytes p)
      taken_whole ended =
          ends input_block (λ (bytes : List ℕ). q ≡ put_of bytes p) (λ (bytes : List ℕ). r ≡ put_of bytes p) filled space filling as_long
          (block_behind (rw ended refl)) ended
