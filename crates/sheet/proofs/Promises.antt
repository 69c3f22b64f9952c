-- What the sheet promises, in the definition's words (sections 1 and 8). Each proof stands where it is cited.
use Rattle.std.specs.Prelude.{Result, Ok}
use mathlib.Core.Path.{◌≡◌}
use mathlib.Core.List.{List}
use mathlib.Core.Logic.{◌↔◌, ◌≢◌}
use Prim.Native.Nat.{ℕ, ◌≤◌, ◌<◌}
use lib.ListN.{length, take, drop}
use Rattle.laws.specs.Extremes.{Least}
use Rattle.laws.specs.Rows.{NoneBefore, Exactly}
use Rattle.laws.proofs.Unique.{one_answer}
use Rattle.sheet.specs.Fields.{count, nth, least, greatest, range_of, standing_of, Bad}
use Rattle.sheet.specs.Packing.{size, groups_of, figures_in, bytes_of, bits_of_bytes, bits_of_groups, Bytes, SpareSet}
use Rattle.sheet.specs.Sheets.{figures_of, sheet_from, read_of, written_of, place_of, Valid, Written}
use Rattle.sheet.specs.Refusals.{read_rows, written_rows, read_fault_number, read_fault_field, read_number, read_field, write_fault_number, write_fault_field, written_number, written_field}
use Rattle.sheet.specs.CaseS.{sheet_s, bytes_s}
use Rattle.sheet.specs.declared.Range.{Range}
use Rattle.sheet.specs.declared.Sheet.{Sheet}
use Rattle.sheet.specs.declared.FieldFault.{FieldFault}
use Rattle.sheet.specs.declared.ReadFault.{ReadFault}
use Rattle.sheet.specs.declared.WriteFault.{WriteFault}
use Rattle.sheet.proofs.bits.Packed.{packed}
use Rattle.sheet.proofs.sheets.OneWriting.{one_writing, written_read}
use Rattle.sheet.proofs.fields.BadFields.{bad_within as bad_is_field}
use Rattle.sheet.proofs.sheets.Valid.{fine}
use Rattle.sheet.proofs.sheets.Making.{from_named_exactly, from_good_exactly, figures_of_made, from_figures}
use Rattle.sheet.proofs.sheets.Reading.{read_exactly, wrong_length_exactly, named_within, named_exactly, good_exactly, read_by_figures}
use Rattle.sheet.proofs.sheets.Writing.{written_exactly, too_small_exactly, named_exactly as named_to_write_exactly, done_exactly, read_done, refused_unchanged, past_unchanged}
use Rattle.sheet.proofs.Starred.{s_read, s_written}

-- Fields packed most significant bit first: the bytes' bits in a row are the fields' bits in a row, then the spare bits.
pub fields_in_a_row : (bytes : List ℕ) → Bytes bytes → bits_of_bytes bytes ≡ bits_of_groups (groups_of bytes)
fields_in_a_row = packed

-- Reading: a number is given exactly when its row holds and none checked before it does, and 0 where none holds.
pub read_number_lem : (bytes : List ℕ) → Bytes bytes → Exactly (read_rows bytes) (read_number (read_of bytes))
read_number_lem = read_exactly

-- 1: not 28 bytes, whatever they are.
pub number_1 : (bytes : List ℕ) → (read_number (read_of bytes) ≡ 1) ↔ (length bytes ≢ size)
number_1 = wrong_length_exactly

-- 3: the first bad field's number is given.
pub number_3 : (bytes : List ℕ) → Bytes bytes → (k : ℕ)
    → ((read_number (read_of bytes) ≡ 3) × (read_field (read_of bytes) ≡ k)) ↔ (Least (Bad (groups_of bytes)) k × NoneBefore (read_rows bytes) 3)
number_3 = named_exactly

-- A bad field is one of the 29, and the field that is given is at most 29.
pub bad_within : (figures : List ℕ) (k : ℕ) → Bad figures k → k ≤ count
bad_within = bad_is_field

pub field_within : (bytes : List ℕ) → read_field (read_of bytes) ≤ count
field_within = named_within

-- Every other string of bytes is a sheet.
pub else_a_sheet : (bytes : List ℕ) → Bytes bytes
    → ((s : Sheet) × (read_of bytes ≡ Ok s)) ↔ ((length bytes ≡ size) × (¬ SpareSet bytes) × ((k : ℕ) → ¬ Bad (groups_of bytes) k))
else_a_sheet = good_exactly

-- What is read is a valid sheet, and the bytes are its writing.
pub read_is_valid : (bytes : List ℕ) (s : Sheet) → Bytes bytes → read_of bytes ≡ Ok s → Written bytes s
read_is_valid = written_read

-- Every field of a valid sheet is from its least to its greatest value.
pub valid_in_range : (s : Sheet) → Valid s → (k : ℕ) → k < count → (least k ≤ nth (figures_of s) k) × (nth (figures_of s) k ≤ greatest k)
unfolding Valid
valid_in_range s v k h = let f = fine (figures_of s) v k h in (f.low, f.high)

-- 3 in figures of any size: the first bad field's number is given.
pub number_3_figures : (figures : List ℕ) (k : ℕ)
    → ((read_number (sheet_from figures) ≡ 3) × (read_field (sheet_from figures) ≡ k)) ↔ Least (Bad figures) k
number_3_figures = from_named_exactly

-- All other figures are a sheet's.
pub else_figures_of_a_sheet : (figures : List ℕ) → ((s : Sheet) × (sheet_from figures ≡ Ok s)) ↔ ((k : ℕ) → ¬ Bad figures k)
else_figures_of_a_sheet = from_good_exactly

-- The figures that a sheet is made from are its figures.
pub figures_come_back : (figures : List ℕ) (s : Sheet) → length figures ≡ count → sheet_from figures ≡ Ok s → figures_of s ≡ figures
figures_come_back = figures_of_made

-- A valid sheet is the sheet of its figures.
pub sheet_comes_back : (s : Sheet) → Valid s → sheet_from (figures_of s) ≡ Ok s
sheet_comes_back = from_figures

-- 28 bytes with no spare bit set are read as the sheet of the figures in them.
pub read_by_its_figures : (bytes : List ℕ) → Bytes bytes → length bytes ≡ size → ¬ SpareSet bytes → read_of bytes ≡ sheet_from (figures_in bytes)
read_by_its_figures = read_by_figures

-- A sheet written and read again is the same sheet.
pub written_and_read : (s : Sheet) (place : List ℕ) → written_of s place ≡ (Ok tt) → read_of (take size (place_of s place)) ≡ Ok s
written_and_read = read_done

-- Each sheet has one writing.
pub each_one_writing : (a b : List ℕ) (s : Sheet) → Bytes a → Bytes b → read_of a ≡ Ok s → read_of b ≡ Ok s → a ≡ b
each_one_writing = one_writing

-- Writing: a number is given exactly when its row holds and none checked before it does, and 0 where none holds.
pub written_number_lem : (s : Sheet) (place : List ℕ) → Exactly (written_rows s place) (written_number (written_of s place))
written_number_lem = written_exactly

-- 12, tested first: a place lent for writing too small.
pub number_12 : (s : Sheet) (place : List ℕ) → (written_number (written_of s place) ≡ 12) ↔ (length place < size)
number_12 = too_small_exactly

-- 3 in writing: the first bad field's number is given.
pub number_3_written : (s : Sheet) (place : List ℕ) (k : ℕ)
    → ((written_number (written_of s place) ≡ 3) × (written_field (written_of s place) ≡ k))
    ↔ (Least (Bad (figures_of s)) k × NoneBefore (written_rows s place) 3)
number_3_written = named_to_write_exactly

-- Every other writing is done.
pub else_done : (s : Sheet) (place : List ℕ) → (written_of s place ≡ (Ok tt)) ↔ ((size ≤ length place) × ((k : ℕ) → ¬ Bad (figures_of s) k))
else_done = done_exactly

-- A refused writing changes no byte.
pub refused_changes_nothing : (s : Sheet) (place : List ℕ) → (written_of s place ≡ (Ok tt) → ⊥) → place_of s place ≡ place
refused_changes_nothing = refused_unchanged

-- Written sheets fill the first 28 bytes only.
pub past_stays : (s : Sheet) (place : List ℕ) → drop size (place_of s place) ≡ drop size place
past_stays = past_unchanged

-- One result of each call, and one later content of writing.
pub read_unique : (bytes : List ℕ) (r t : Result Sheet ReadFault) → r ≡ read_of bytes → t ≡ read_of bytes → r ≡ t
read_unique bytes = one_answer

pub read_fault_number_unique : (fault : ReadFault) (r t : ℕ) → r ≡ read_fault_number fault → t ≡ read_fault_number fault → r ≡ t
read_fault_number_unique fault = one_answer

pub read_fault_field_unique : (fault : ReadFault) (r t : ℕ) → r ≡ read_fault_field fault → t ≡ read_fault_field fault → r ≡ t
read_fault_field_unique fault = one_answer

pub write_fault_number_unique : (fault : WriteFault) (r t : ℕ) → r ≡ write_fault_number fault → t ≡ write_fault_number fault → r ≡ t
write_fault_number_unique fault = one_answer

pub write_fault_field_unique : (fault : WriteFault) (r t : ℕ) → r ≡ write_fault_field fault → t ≡ write_fault_field fault → r ≡ t
write_fault_field_unique fault = one_answer

pub figures_unique : (s : Sheet) (figures others : List ℕ) → figures ≡ figures_of s → others ≡ figures_of s → figures ≡ others
figures_unique s = one_answer

pub sheet_unique : (figures : List ℕ) (r t : Result Sheet ReadFault) → r ≡ sheet_from figures → t ≡ sheet_from figures → r ≡ t
sheet_unique figures = one_answer

pub range_unique : (k : ℕ) (r t : Range) → r ≡ range_of k → t ≡ range_of k → r ≡ t
range_unique k = one_answer

pub standing_unique : (figures : List ℕ) (k : ℕ) (r t : Result (Unit {0}) FieldFault) → r ≡ standing_of figures k → t ≡ standing_of figures k → r ≡ t
standing_unique figures k = one_answer

pub write_unique : (s : Sheet) (place : List ℕ) (r t : Result (Unit {0}) WriteFault) → r ≡ written_of s place → t ≡ written_of s place → r ≡ t
write_unique s place = one_answer

pub place_unique : (s : Sheet) (place : List ℕ) (now later : List ℕ) → now ≡ place_of s place → later ≡ place_of s place → now ≡ later
place_unique s place = one_answer

-- The starred case, S: its bytes are read as its sheet, and written from it.
pub starred : (read_of bytes_s ≡ Ok sheet_s) × (bytes_of (figures_of sheet_s) ≡ bytes_s)
starred = (s_read, s_written)
