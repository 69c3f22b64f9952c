-- Length and beam in each other's places: of a ship that passes 18 the length, three beams or more, stands as the beam, so 18 is given.
use Rattle.std.specs.Prelude.{Ok}
use mathlib.Core.Path.{◌≡◌, ap}
use mathlib.Core.List.{List}
use Prim.Native.Nat.{ℕ, ◌≤◌}
use native.Mathlib.Omega.{arith}
use Rattle.sheet.specs.Fields.{fields, field_at, least}
use Rattle.sheet.specs.Packing.{groups_of, Bytes}
use Rattle.sheet.specs.Sheets.{sheet_of, read_of}
use Rattle.sheet.specs.Refusals.{read_number}
use Rattle.sheet.proofs.sheets.OneWriting.{accepted}
use Rattle.sheet.proofs.sheets.Reading.{read_exactly}
use Rattle.sheet.proofs.sheets.Valid.{fine}
use Rattle.design.specs.Design.{design_of}
use Rattle.design.specs.Numbers.{code_of}
use Rattle.design.specs.Refusals.{sheet_in, UnderThreeBeams, rows}
use Rattle.design.proofs.rows.Exactly.{design_exactly}

some_beam : (bytes : List ℕ) → read_of bytes ≡ Ok (sheet_in bytes) → 1 ≤ (sheet_in bytes).beam
unfolding sheet_of least field_at fields
some_beam bytes read = let low = (fine (groups_of bytes) (accepted bytes (sheet_in bytes) read).none 3 (omega arith)).low in omega arith

-- past 1, 2 and 3, the row of 18 decides
under_is_18 : (bytes table : List ℕ) → Bytes bytes → read_of bytes ≡ Ok (sheet_in bytes) → UnderThreeBeams (sheet_in bytes)
    → code_of (design_of bytes table) ≡ 18
unfolding rows
under_is_18 bytes table small read under =
    let good = (read_exactly bytes small).else_answered.0 (ap read_number read) in
    ((design_exactly bytes table small).number_given 18 (omega arith)).1 (under, (good.0, (good.1.0, (good.1.1.0, tt))))

pub exchanged : (bytes other table : List ℕ) → Bytes other → read_of bytes ≡ Ok (sheet_in bytes) → read_of other ≡ Ok (sheet_in other)
    → ¬ UnderThreeBeams (sheet_in bytes) → (sheet_in other).length ≡ (sheet_in bytes).beam → (sheet_in other).beam ≡ (sheet_in bytes).length
    → code_of (design_of other table) ≡ 18
exchanged bytes other table small read read' passes length beam =
    let some = some_beam bytes read in under_is_18 other table small read' (omega arith)
