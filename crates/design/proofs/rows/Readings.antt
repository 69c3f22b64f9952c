-- Past the rows of its reading the bytes are read as their sheet, and past those of its level it has its level: what is told of each ends so.
use Rattle.std.specs.Prelude.{Result, Ok, Err}
use mathlib.Core.Path.{◌≡◌}
use mathlib.Core.List.{List}
use mathlib.Core.Logic.{◌≢◌}
use Prim.Native.Nat.{ℕ}
use native.Mathlib.Omega.{arith}
use lib.ListN.{length}
use Rattle.laws.specs.Rows.{None}
use Rattle.laws.proofs.Rows.{answered}
use Rattle.sheet.specs.Packing.{size, Bytes}
use Rattle.sheet.specs.Sheets.{read_of}
use Rattle.sheet.specs.Refusals.{read_rows, read_number}
use Rattle.sheet.proofs.sheets.Reading.{reads, read_told}
use Rattle.sheet.proofs.Promises.{number_1}
use Rattle.gauge.specs.Designing.{design_level, level_rows}
use Rattle.design.specs.Design.{level_for, by_reading, design_at}
use Rattle.design.specs.Numbers.{code_of}
use Rattle.design.specs.Refusals.{sheet_in, level_in, off_record}
use Rattle.design.proofs.rows.Rooms.{levels_from, level_told}
use Rattle.sheet.specs.declared.ReadFault.{ReadFault}
use Rattle.sheet.specs.declared.Sheet.{Sheet}
use Rattle.datum.specs.declared.Level.{Level}
use Rattle.gauge.specs.declared.LevelFault.{LevelFault}

module _ (bytes table : List ℕ) where
  pub sheet_read : Bytes bytes → None (read_rows bytes) → read_of bytes ≡ Ok (sheet_in bytes)
  sheet_read small none = answered (reads bytes) (read_rows bytes) (read_of bytes) (read_told bytes small) none

  pub level_read : None (off_record (sheet_in bytes).level (level_rows table))
      → level_for (sheet_in bytes).level (design_level table) ≡ Ok (level_in (sheet_in bytes) table)
  level_read none =
      answered (levels_from (sheet_in bytes).level table) (off_record (sheet_in bytes).level (level_rows table)) _ (level_told (sheet_in bytes).level table) none

-- bytes that are no sheet's by their length, at any level
pub other_length : (bytes : List ℕ) (read : Result Level LevelFault) → length bytes ≢ size → code_of (design_at bytes read) ≡ 1
unfolding design_at
other_length bytes read h = go (read_of bytes) ((number_1 bytes).1 h)
  where
    go : (r : Result Sheet ReadFault) → read_number r ≡ 1 → code_of (by_reading r read) ≡ 1
    go (Ok s) e = absurd (omega arith)
    go (Err fault) e = e
