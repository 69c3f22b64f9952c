-- No text is longer than the bytes that it is given.
use Rattle.std.specs.Prelude.{Result, Ok, Err}
use mathlib.Core.Path.{◌≡◌, refl, ◌∙◌}
use mathlib.Core.Bool.{Bool, true, false}
use mathlib.Core.List.{List, [], ◌∷◌, ◌++◌, map}
use Prim.Native.Nat.{ℕ, zero, suc, ◌+◌, ◌-◌, ◌*◌, ◌^◌, ◌≤◌, ◌<◌, min}
use native.Mathlib.Omega.{arith}
use lib.Dec.{T, eqb, leb, ltb→lt}
use lib.ListN.{length, take, drop, length-append, length-take, length-map}
use Rattle.laws.proofs.Every.{every_at}
use Rattle.laws.specs.Choice.{ifᵇ◌then◌else◌, ◌<ᵇ◌}
use Rattle.laws.specs.Every.{every}
use Rattle.lines.proofs.Promises.{count_fits}
use Rattle.sheet.specs.Fields.{fields, field_at, greatest, range_of, first_bad}
use Rattle.sheet.specs.Packing.{bytes_of as packed_of}
use Rattle.sheet.specs.Refusals.{read_fault_number, read_fault_field}
use Rattle.sheet.specs.Sheets.{figures_of, read_of}
use Rattle.sheet.specs.declared.ReadFault.{ReadFault}
use Rattle.sheet.specs.declared.ReadFault.TheVariants.{WrongLength, SpareBitSet, BadField}
use Rattle.sheet.proofs.Promises.{field_within}
use Rattle.sheet.proofs.sheets.OneWriting.{bytes_length}
use Rattle.typed.specs.Rows.{bytes_of, count, values_of}
use Rattle.typed.proofs.Promises.{line_fits_room, blank_fits_room, expected_fits_room}
use Rattle.texts.specs.Messages.{message_bytes, reason_text, shown, seen, seen_text, quoted_text, stood_text, expected_for, message_text}
use Rattle.texts.specs.Shown.{shown_bytes, form_bytes, sheet_bytes, row_figure, row_line, rows_text, refused_text, read_text, shown_text, sheet_text, form_row, form_rows, form_text}
use Rattle.texts.specs.declared.LineFault.{LineFault}
use Rattle.texts.specs.declared.LineFault.TheVariants.{NoSheet, Missing, NoName, Twice, Misplaced, NoFigure, NoUnit, OutOfRange, Disagrees}
use Rattle.texts.specs.declared.Place.{Place}
use Rattle.texts.proofs.meaning.Again.{read_fine}
use Rattle.texts.proofs.meaning.Complete.{row_within}
use Rattle.texts.proofs.meaning.Filling.{first_none_bad}
use Rattle.sheet.specs.declared.Sheet.{Sheet}

-- the bytes of figures
pub sheet_fits : (figures : List ℕ) → length (sheet_text figures) ≤ sheet_bytes
unfolding sheet_text
sheet_fits figures = go (eqb (first_bad figures) 0)
  where
    go : (b : Bool) → length (ifᵇ b then packed_of figures else []) ≤ sheet_bytes
    go true = omega (arith, bytes_length figures)
    go false = omega arith

-- the form: at most 596 bytes a row
form_row_fits : (i : ℕ) → length (form_row i) ≤ 596
unfolding form_row
form_row_fits i = simp length-append (omega (arith, expected_fits_room i, blank_fits_room i))

form_rows_fit : (i m : ℕ) → length (form_rows i m) ≤ 596 * m
unfolding form_rows
form_rows_fit i zero = omega arith
form_rows_fit i (suc m) = omega (arith, length-append (form_row i) (form_rows (i + 1) m), form_row_fits i, form_rows_fit (i + 1) m)

pub form_fits : length form_text ≤ form_bytes
unfolding form_text
form_fits = omega (arith, form_rows_fit 0 count)

-- every figure of a row is of 32 bits
small_row : ℕ → Bool
small_row i = (values_of i).greatest <ᵇ 4294967296

small_rows : T (every count small_row)
unfolding small_row values_of range_of greatest field_at fields
small_rows = tt

values_small : (i : ℕ) → i < count → (values_of i).greatest < 2 ^ 32
unfolding small_row
values_small i h = ltb→lt (values_of i).greatest 4294967296 (every_at count small_row small_rows i h)

-- the rows of a sheet that was read: at most 81 bytes each
module _ (v : List ℕ) (fine : first_bad v ≡ 0) where
  row_line_fits : (i : ℕ) → i < count → length (row_line i (row_figure v i)) ≤ 81
  unfolding row_line
  row_line_fits i h =
      let small : row_figure v i < 2 ^ 32 = omega (arith, row_within v (first_none_bad v fine) i h, values_small i h) in
      simp length-append (omega (arith, line_fits_room i (row_figure v i) h small))

  rows_fit : (i m : ℕ) → i + m ≤ count → length (rows_text v i m) ≤ 81 * m
  unfolding rows_text
  rows_fit i zero h = omega arith
  rows_fit i (suc m) h =
      omega (
        arith,
        length-append (row_line i (row_figure v i)) (rows_text v (i + 1) m),
        row_line_fits i (omega arith),
        rows_fit (i + 1) m (omega arith),
      )

number_small : (fault : ReadFault) → read_fault_number fault ≤ 3
number_small WrongLength = omega arith
number_small SpareBitSet = omega arith
number_small (BadField field) = omega arith

-- bytes that are no sheet: at most 50
refused_fits : (fault : ReadFault) → read_fault_field fault ≤ 29 → length (refused_text fault) ≤ 50
unfolding refused_text
refused_fits fault h =
    let number : read_fault_number fault < 2 ^ 64 = omega (arith, number_small fault) in
    let field : read_fault_field fault < 2 ^ 64 = omega arith in
    simp length-append (omega (arith, count_fits (read_fault_number fault) number, count_fits (read_fault_field fault) field))

read_fits : (bytes : List ℕ) (r : Result Sheet ReadFault) → read_of bytes ≡ r → length (read_text r) ≤ 2268
read_fits bytes (Ok s) e = rows_fit (figures_of s) (read_fine bytes s e).none_bad 0 count (omega arith)
read_fits bytes (Err fault) e =
    let h : read_fault_field fault ≤ 29 = rw e at (field_within bytes) in
    omega (arith, refused_fits fault h)

pub shown_fits : (index : ℕ) (bytes : List ℕ) → index < 2 ^ 64 → length (shown_text index bytes) ≤ shown_bytes
unfolding shown_text
shown_fits index bytes h = simp length-append (omega (arith, count_fits index h, read_fits bytes (read_of bytes) refl))

-- a message, part by part
reason_fits : (fault : LineFault) → length (reason_text fault) ≤ 31
reason_fits NoSheet = omega arith
reason_fits Missing = omega arith
reason_fits NoName = omega arith
reason_fits Twice = omega arith
reason_fits Misplaced = omega arith
reason_fits NoFigure = omega arith
reason_fits NoUnit = omega arith
reason_fits OutOfRange = omega arith
reason_fits Disagrees = omega arith

seen_fits : (line : List ℕ) → length (seen_text line) ≤ 62
seen_fits line =
    let cut : length (map shown (take (min seen (length line)) line)) ≡ min (min seen (length line)) (length line) = length-map (take (min seen (length line)) line) shown ∙ length-take (min seen (length line)) line in
    let all : length (seen_text line) ≡ suc (length (map shown (take (min seen (length line)) line))) + 1 = length-append (34 ∷ map shown (take (min seen (length line)) line)) (34 ∷ []) in
    omega arith

quoted_fits : (line : List ℕ) → length (quoted_text line) ≤ 64
unfolding quoted_text
quoted_fits line = go (leb (length line) seen)
  where
    go : (b : Bool) → length (ifᵇ b then seen_text line else seen_text line ++ bytes_of "..") ≤ 64
    go true = omega (arith, seen_fits line)
    go false = omega (arith, length-append (seen_text line) (bytes_of ".."), seen_fits line)

stood_fits : (text : List ℕ) (place : Place) → length (stood_text text place) ≤ 64
unfolding stood_text
stood_fits text place = go place.ended
  where
    go : (b : Bool) → length (ifᵇ b then bytes_of "the text ends" else quoted_text (take (place.end - place.start) (drop place.start text))) ≤ 64
    go true = omega arith
    go false = quoted_fits (take (place.end - place.start) (drop place.start text))

-- what is expected
expected_fits : (fault : LineFault) (row : ℕ) → length (expected_for fault row) ≤ 512
expected_fits NoSheet row = omega arith
expected_fits Missing row = expected_fits_room row
expected_fits NoName row = expected_fits_room row
expected_fits Twice row = expected_fits_room row
expected_fits Misplaced row = expected_fits_room row
expected_fits NoFigure row = expected_fits_room row
expected_fits NoUnit row = expected_fits_room row
expected_fits OutOfRange row = expected_fits_room row
expected_fits Disagrees row = expected_fits_room row

pub message_fits : (text : List ℕ) (fault : LineFault) (row : ℕ) (place : Place) → place.line < 2 ^ 64
    → length (message_text text fault row place) ≤ message_bytes
unfolding message_text
message_fits text fault row place h =
    simp length-append (omega (arith, count_fits place.line h, reason_fits fault, stood_fits text place, expected_fits fault row))
