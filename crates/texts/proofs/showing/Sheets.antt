-- The bytes of a sheet's figures, written into a part of a buffer.
use Rattle.std.specs.Prelude.{Ok, Err}
use mathlib.Core.Path.{◌≡◌, refl}
use mathlib.Core.Bool.{Bool, true, false}
use mathlib.Core.List.{List, [], append-nil}
use Prim.Native.Nat.{ℕ, ◌+◌, ◌-◌, ◌≤◌}
use native.Mathlib.Omega.{arith}
use borrow.Author.Tests.{le-ltb, eq-eqb, eqb-true, ne_eqb}
use borrow.Rule.Slice.PartMut.{mid_of, put_mid}
use lib.Dec.{eqb}
use lib.ListN.{length, drop, length-drop, drop_of_length-le}
use lib.Seq.{take_all, drop-drop}
use Rattle.laws.specs.Choice.{ifᵇ◌then◌else◌}
use Rattle.lines.specs.Lines.{with_text, Put}
use Rattle.lines.proofs.putting.Placing.{put_none}
use Rattle.sheet.specs.Fields.{count, first_bad}
use Rattle.sheet.specs.Packing.{size}
use Rattle.sheet.specs.Sheets.{sheet_of, sheet_from, place_of}
use Rattle.sheet.specs.declared.Sheet.{Sheet}
use Rattle.sheet.specs.declared.ReadFault.{ReadFault}
use Rattle.sheet.specs.declared.ReadFault.TheVariants.{BadField}
use Rattle.sheet.proofs.Promises.{figures_come_back}
use Rattle.sheet.proofs.sheets.OneWriting.{bytes_length}
use Rattle.texts.specs.Shown.{sheet_text}

-- figures that make a sheet have no bad field, and figures that make none have one
module _ (figures : List ℕ) where
  pub none_bad : (s : Sheet) → sheet_from figures ≡ Ok s → first_bad figures ≡ 0
  unfolding sheet_from
  none_bad s e = go (eqb (first_bad figures) 0) refl e
    where
      go : (b : Bool) → eqb (first_bad figures) 0 ≡ b → (ifᵇ b then Ok (sheet_of figures) else Err (BadField (first_bad figures))) ≡ Ok s → first_bad figures ≡ 0
      go true q e = eqb-true _ _ q
      go false q e = let z : ◌≡◌ {A = ℕ} 0 1 = cc in absurd (omega arith)

  pub some_bad : (fault : ReadFault) → sheet_from figures ≡ Err fault → first_bad figures ≡ 0 → ⊥
  unfolding sheet_from
  some_bad fault e z = let f : Ok (sheet_of figures) ≡ Err fault = rw (eq-eqb _ _ z) at e in let w : ◌≡◌ {A = ℕ} 0 1 = cc in omega arith

  module _ (buffer : List ℕ) (at : ℕ) where
    pub nothing_put : (fault : ReadFault) → sheet_from figures ≡ Err fault → Put buffer at (sheet_text figures) buffer at
    unfolding sheet_text
    nothing_put fault e = rw (ne_eqb _ _ (some_bad fault e)) put_none

    pub sheet_put : (s : Sheet) → length figures ≡ count → at + size ≤ length buffer → sheet_from figures ≡ Ok s
        → Put buffer at (sheet_text figures) (put_mid at (length buffer - at) buffer (place_of s (mid_of at (length buffer - at) buffer))) (at + size)
    unfolding sheet_text with_text place_of
    sheet_put s long fits e =
        let none = none_bad s e in
        let back = figures_come_back figures s long e in
        let rest = length-drop at buffer in
        let mid : mid_of at (length buffer - at) buffer ≡ drop at buffer = take_all (length buffer - at) (drop at buffer) (omega arith) in
        let none_left : drop (length buffer - at) (drop at buffer) ≡ [] = drop_of_length-le (drop at buffer) {i = length buffer - at} (omega arith) in
        let n = bytes_length figures in
        record {
          after = rw (eq-eqb _ _ none, n);
          holds = rw (mid, none_left, le-ltb (length (drop at buffer)) size (omega arith), back, eq-eqb _ _ none, n, append-nil, drop-drop size at buffer);
        }
