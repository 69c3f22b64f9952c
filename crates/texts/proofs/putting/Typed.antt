-- The line of a typed row, its line in the empty form and what is expected in it, where there is room: it stands, and ends within its room.
use mathlib.Core.List.{List}
use Prim.Native.Nat.{ℕ, ◌+◌, ◌^◌, ◌≤◌, ◌<◌}
use native.Mathlib.Omega.{arith}
use lib.ListN.{length}
use Rattle.lines.specs.Lines.{Put}
use Rattle.lines.proofs.putting.Fitting.{Answered, put_within}
use Rattle.typed.specs.Rows.{count}
use Rattle.typed.specs.Lines.{line_bytes, expected_bytes, line_text, blank_text, expected_text}
use Rattle.typed.proofs.Promises.{line_fits_room, blank_fits_room, expected_fits_room}

-- a text was put at a place of a buffer, and ends within its room
abbrev Stands : ℕ → List ℕ → ℕ → List ℕ → ℕ → List ℕ → Type 0
Stands at buffer size text end later = Put buffer at text later end × (end ≤ at + size)

module _ (at : ℕ) (buffer : List ℕ) {end : ℕ} {later : List ℕ} where
  stands : (size : ℕ) (text : List ℕ) → length text ≤ size → Answered size text at buffer end later → at + size ≤ length buffer
      → Stands at buffer size text end later
  stands size text short a fits = let p = put_within size text at buffer fits a in (p, omega (arith, p.after))

  pub line_stands : (i n : ℕ) → Answered line_bytes (line_text i n) at buffer end later → i < count → n < 2 ^ 32 → at + line_bytes ≤ length buffer
      → Stands at buffer line_bytes (line_text i n) end later
  line_stands i n a h l = stands line_bytes (line_text i n) (line_fits_room i n h l) a

  pub blank_stands : (i : ℕ) → Answered line_bytes (blank_text i) at buffer end later → at + line_bytes ≤ length buffer
      → Stands at buffer line_bytes (blank_text i) end later
  blank_stands i = stands line_bytes (blank_text i) (blank_fits_room i)

  pub expected_stands : (i : ℕ) → Answered expected_bytes (expected_text i) at buffer end later → at + expected_bytes ≤ length buffer
      → Stands at buffer expected_bytes (expected_text i) end later
  expected_stands i = stands expected_bytes (expected_text i) (expected_fits_room i)
