-- What reading and writing answer, case by case.
use Rattle.std.specs.Prelude.{Option, Some, None, Ok, Err}
use mathlib.Core.Path.{◌≡◌, refl}
use mathlib.Core.List.{List, ◌++◌}
use Prim.Native.Nat.{ℕ, ◌<◌, ◌≤◌}
use borrow.Author.Tests.{eq-eqb, ne_eqb, le-ltb, lt-ltb}
use lib.ListN.{length, take, drop}
use lib.Seq.{get_or-take}
use Rattle.sheet.specs.Fields.{count, nth, first_bad, named}
use Rattle.sheet.specs.Packing.{size, groups_of, figures_in, bytes_of}
use Rattle.sheet.specs.Sheets.{figures_of, sheet_from, read_groups, read_of, written_of, place_of}
use Rattle.sheet.specs.declared.Sheet.{Sheet}
use Rattle.sheet.specs.declared.ReadFault.TheVariants.{WrongLength, SpareBitSet}
use Rattle.sheet.specs.declared.WriteFault.TheVariants.{PlaceTooSmall, BadField as BadFieldToWrite}
use Rattle.sheet.proofs.fields.Runs.{named_some, named_none}
use Rattle.sheet.proofs.figures.SameFields.{sheet_from_same}

module _ (b : List ℕ) where
  pub read_length : (length b ≡ size → ⊥) → Err WrongLength ≡ read_of b
  unfolding read_of
  read_length h = rw (ne_eqb (length b) size h)

  module _ (spare : ℕ) (l : length b ≡ size) (e : spare ≡ nth (groups_of b) count) where
    pub read_spare : (spare ≡ 0 → ⊥) → Err SpareBitSet ≡ read_of b
    unfolding read_of read_groups
    read_spare h = rw (eq-eqb (length b) size l, ← e, ne_eqb spare 0 h)

    pub read_from : spare ≡ 0 → sheet_from (groups_of b) ≡ read_of b
    unfolding read_of read_groups
    read_from h = rw (eq-eqb (length b) size l, ← e, eq-eqb spare 0 h)

  -- the spare bits are not among the figures that make the sheet
  pub figures_in_lem : sheet_from (figures_in b) ≡ sheet_from (groups_of b)
  unfolding figures_in
  figures_in_lem = sheet_from_same (take count (groups_of b)) (groups_of b) (λ k h. get_or-take count (groups_of b) k 0 h)

module _ (s : Sheet) (place : List ℕ) where
  pub write_small : length place < size → (Err PlaceTooSmall ≡ written_of s place) × (place ≡ place_of s place)
  unfolding written_of place_of
  write_small l = rw (lt-ltb (length place) size l) (refl, refl)

  module _ (v : List ℕ) (l : size ≤ length place) (e : v ≡ figures_of s) (bad : Option ℕ) (f : bad ≡ named (first_bad v)) where
    pub write_bad : (k : ℕ) → bad ≡ Some k → (Err (BadFieldToWrite k) ≡ written_of s place) × (place ≡ place_of s place)
    unfolding written_of place_of
    write_bad k some =
        let n = named_some bad k _ f some in
        rw (le-ltb (length place) size l, ← e, ← n.0, ne_eqb k 0 n.1) (refl, refl)

    pub write_done : (o : List ℕ) → bad ≡ None → o ≡ bytes_of v ++ drop size place
        → ((Ok tt) ≡ written_of s place) × (o ≡ place_of s place)
    unfolding written_of place_of
    write_done o none g = rw (le-ltb (length place) size l, ← e, eq-eqb (first_bad v) 0 (named_none bad _ f none)) (refl, g)
