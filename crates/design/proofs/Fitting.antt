-- Each number of a design fits 32 bits: each figure by what it is and what its room says of it, a number that turns a sheet away by its row, and
-- its field as it is one of the 29.
use Rattle.std.specs.Prelude.{Result, Ok, Err}
use mathlib.Core.Path.{◌≡◌, refl}
use mathlib.Core.Bool.{Bool, true, false}
use mathlib.Core.List.{List}
use mathlib.Core.Logic.{inl, inr}
use Prim.Native.Nat.{ℕ, zero, suc, ◌-◌, ◌^◌, ◌≤◌, ◌<◌}
use native.Mathlib.Omega.{arith}
use lib.Dec.{lit<}
use lib.IntN.{pos}
use lib.ListN.{replicate}
use borrow.Author.Tests.{eqb-true, eqb-false}
use mir.Syntax.{w32}
use mir.Val.{SFits}
use Rattle.laws.specs.Choice.{◌=ᵇ◌}
use Rattle.laws.specs.Each.{Each, ◌&◌}
use Rattle.datum.specs.declared.Level.{Level}
use Rattle.datum.proofs.Promises.{level_fits, datum_fits}
use Rattle.sheet.specs.Fields.{count, fields, field_at, greatest}
use Rattle.sheet.specs.Packing.{groups_of, Bytes}
use Rattle.sheet.specs.Sheets.{level_figure, figures_of, Valid}
use Rattle.sheet.specs.declared.Sheet.{Sheet}
use Rattle.sheet.specs.declared.LevelSource.{LevelSource}
use Rattle.sheet.specs.declared.LevelSource.TheVariants.{FromRecord, Given}
use Rattle.sheet.proofs.Promises.{bad_within, valid_in_range}
use Rattle.sheet.proofs.sheets.OneWriting.{read_valid}
use Rattle.gauge.specs.Designing.{range_of, frequency_taken}
use Rattle.gauge.proofs.Promises.{frequency_level_within}
use Rattle.lanes.proofs.Promises.{lanes_within}
use Rattle.depth.proofs.Promises.{columns_one_to_three}
use Rattle.width.proofs.Promises.{width_fits, widening_fits}
use Rattle.class.proofs.Promises.{ship_class_within, width_class_within, depth_class_within}
use Rattle.design.specs.Design.{width_stretch, lanes_for, design_of}
use Rattle.design.specs.Numbers.{number_count, numbers_of}
use Rattle.design.specs.Refusals.{reason_number, reason_field, NamesFirst, sheet_in, level_from, level_in, rows}
use Rattle.design.specs.Answers.{stretch_of, width_in, FiguresAre}
use Rattle.design.specs.declared.Figures.{Figures}
use Rattle.design.specs.declared.Reason.{Reason}
use Rattle.design.proofs.answers.Numbers.{reason_to, field_zero}
use Rattle.design.proofs.rows.Readings.{sheet_read}
use Rattle.design.proofs.rows.Exactly.{Ended, design_ended}

abbrev AllFit : Result Figures Reason → Type 0
AllFit a = Each (SFits w32) (numbers_of a)

under : {n : ℕ} → n < 2 ^ 31 → SFits w32 (pos n)
under h = record { sfits = h }

-- the figures of a valid sheet at a level that is held in 16 bits
module _ (s : Sheet) (valid : Valid s) (level : Level) (held : level.0 < 2 ^ 16) where
  answered_fits : (f : Figures) → FiguresAre s level f → AllFit (Ok f)
  unfolding numbers_of figures_of greatest field_at fields
  answered_fits f are =
      let cut = are.cut.holds in
      let sailing : f.sailing.0 ≤ 3000 = omega (arith, are.sailing_depth, cut.served.deep) in
      under (lit< tt) & under (lit< tt) & rw are.level (level_fits level held) & under (omega (arith, lanes_within f.lanes)) & under (omega arith) & under (omega arith)
      & rw are.datum_depth_is (datum_fits f.cut level (omega arith) held)
      & rw are.width (under (width_fits (width_stretch s (lanes_for s) f.sailing) (omega (arith, valid_in_range s valid 3 (lit< tt))) _ _ _ _))
      & rw are.widening (under (widening_fits s.turn s.radius s.length s.speed (lanes_for s)
      (omega (arith, valid_in_range s valid 24 (lit< tt))) (omega (arith, valid_in_range s valid 2 (lit< tt))) (omega (arith, valid_in_range s valid 4 (lit< tt)))))
      & under (omega (arith, are.columns, columns_one_to_three (stretch_of s level)))
      & under (omega (arith, are.ship_class_is, ship_class_within s.deadweight))
      & under (omega (arith, are.width_class_is, width_class_within (lanes_for s) (width_in s f)))
      & under (omega (arith, are.depth_class_is, depth_class_within f.sailing)) & tt

zeros_fit : (n : ℕ) → Each (SFits w32) (replicate n (pos 0))
zeros_fit zero = tt
zeros_fit (suc n) = (under (lit< tt), zeros_fit n)

refused_fits : (r : Reason) → reason_field r ≤ count → AllFit (Err r)
unfolding numbers_of
refused_fits r field = under (omega (arith, reason_to r)) & under (omega arith) & zeros_fit (number_count - 2)

field_within : (bytes : List ℕ) (r : Reason) → NamesFirst bytes r → reason_field r ≤ count
field_within bytes r names = go (reason_number r =ᵇ 3) refl
  where
    go : (b : Bool) → (reason_number r =ᵇ 3) ≡ b → reason_field r ≤ count
    go true three = bad_within (groups_of bytes) (reason_field r) (names (eqb-true (reason_number r) 3 three)).holds
    go false other = omega (arith, field_zero r (eqb-false (reason_number r) 3 other))

-- a level off the record is held as one of the table's, and one that is given in field 28
level_held : (source : LevelSource) (table : List ℕ) → level_figure source < 2 ^ 16 → (level_from source table).0 < 2 ^ 16
level_held FromRecord table given = omega (arith, frequency_level_within table (frequency_taken (range_of table)))
level_held (Given level) table given = given

module _ (bytes table : List ℕ) (small : Bytes bytes) where
  ended_fits : (a : Result Figures Reason) → Ended bytes table a → AllFit a
  unfolding rows figures_of greatest field_at fields
  ended_fits (Ok f) (inl past) =
      let none = past.0 in
      let valid = read_valid bytes (sheet_in bytes) (sheet_read bytes table small (none.0 & none.1.0 & none.1.1.0 & tt)) in
      answered_fits (sheet_in bytes) valid (level_in (sheet_in bytes) table)
      (level_held (sheet_in bytes).level table (omega (arith, valid_in_range (sheet_in bytes) valid 27 (lit< tt)))) f past.1
  ended_fits (Ok f) (inr stopped) = absurd stopped.1
  ended_fits (Err r) (inl past) = absurd past.1
  ended_fits (Err r) (inr stopped) = refused_fits r (field_within bytes r stopped.1)

  pub design_fits : AllFit (design_of bytes table)
  design_fits = ended_fits (design_of bytes table) (design_ended bytes table small)
