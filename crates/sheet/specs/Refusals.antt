-- The rows of section 8 that reading and writing check, and the number and the field of each fault.
use Rattle.std.specs.Prelude.{List, [], ◌∷◌, ◌≢◌, ℕ, ◌<◌, ◌≤◌, length, Result, Ok, Err}
use Rattle.std.proofs.Common.{lit≤}
use Rattle.laws.specs.Rows.{Row, ◌when◌}
use Rattle.sheet.specs.Fields.{Bad}
use Rattle.sheet.specs.Packing.{size, groups_of, SpareSet}
use Rattle.sheet.specs.Sheets.{figures_of}
use Rattle.sheet.specs.declared.Sheet.{Sheet}
use Rattle.sheet.specs.declared.ReadFault.{ReadFault}
use Rattle.sheet.specs.declared.ReadFault.TheVariants.{WrongLength, SpareBitSet, BadField}
use Rattle.sheet.specs.declared.WriteFault.{WriteFault}
use Rattle.sheet.specs.declared.WriteFault.TheVariants.{PlaceTooSmall, BadField as BadFieldToWrite}

-- 3: a bad field
pub record SomeBad (figures : List ℕ) : Type 0 where
  pub field : ℕ
  pub bad : Bad figures field

-- the rows that reading checks, in their order
abbrev pub read_rows : List ℕ → List Row
read_rows bytes =
    (1 when (length bytes ≢ size))
    ∷ (2 when SpareSet bytes)
    ∷ (3 when SomeBad (groups_of bytes))
    ∷ []

-- the rows that writing checks, in their order
abbrev pub written_rows : Sheet → List ℕ → List Row
written_rows s place =
    (12 when (length place < size))
    ∷ (3 when SomeBad (figures_of s))
    ∷ []

-- the number of a fault in reading, and the field that it names, 0 where it names none
abbrev pub read_fault_number : ReadFault → ℕ
read_fault_number WrongLength = 1
read_fault_number SpareBitSet = 2
read_fault_number (BadField field) = 3

abbrev pub read_fault_field : ReadFault → ℕ
read_fault_field WrongLength = 0
read_fault_field SpareBitSet = 0
read_fault_field (BadField field) = field

-- 0 is no refusal's number
pub read_fault_some : (fault : ReadFault) → 1 ≤ read_fault_number fault
read_fault_some WrongLength = lit≤ tt
read_fault_some SpareBitSet = lit≤ tt
read_fault_some (BadField field) = lit≤ tt

-- the number and the field of what bytes are read as: the fault's, 0 for a sheet
abbrev pub read_number : Result Sheet ReadFault → ℕ
read_number (Ok s) = 0
read_number (Err fault) = read_fault_number fault

abbrev pub read_field : Result Sheet ReadFault → ℕ
read_field (Ok s) = 0
read_field (Err fault) = read_fault_field fault

-- the same of writing
abbrev pub write_fault_number : WriteFault → ℕ
write_fault_number PlaceTooSmall = 12
write_fault_number (BadFieldToWrite field) = 3

abbrev pub write_fault_field : WriteFault → ℕ
write_fault_field PlaceTooSmall = 0
write_fault_field (BadFieldToWrite field) = field

pub write_fault_some : (fault : WriteFault) → 1 ≤ write_fault_number fault
write_fault_some PlaceTooSmall = lit≤ tt
write_fault_some (BadFieldToWrite field) = lit≤ tt

abbrev pub written_number : Result (Unit {0}) WriteFault → ℕ
written_number (Ok tt) = 0
written_number (Err fault) = write_fault_number fault

abbrev pub written_field : Result (Unit {0}) WriteFault → ℕ
written_field (Ok tt) = 0
written_field (Err fault) = write_fault_field fault
