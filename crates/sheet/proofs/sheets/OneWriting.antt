-- A written sheet is read back, and each sheet has one writing.
use Rattle.std.specs.Prelude.{Ok}
use mathlib.Core.Path.{◌≡◌, refl, ap, sym, ◌∙◌}
use mathlib.Core.List.{List}
use Prim.Native.Nat.{ℕ, ◌≤◌}
use native.Mathlib.Omega.{arith}
use borrow.Author.Count.{below_more}
use borrow.Author.Tests.{eq-eqb, le-ltb}
use lib.ListN.{length, take, drop}
use lib.Seq.{take_at}
use Rattle.laws.proofs.Never.{never}
use Rattle.sheet.specs.Bits.{cut}
use Rattle.sheet.specs.Fields.{groups, count, width, nth, first_bad}
use Rattle.sheet.specs.Packing.{size, eight, listed, groups_of, bytes_of, Bytes}
use Rattle.sheet.specs.Sheets.{sheet_of, figures_of, read_of, place_of, Valid, Written}
use Rattle.sheet.specs.declared.Sheet.{Sheet}
use Rattle.sheet.proofs.bits.Regroup.{joined_same, listed_length}
use Rattle.sheet.proofs.bits.RoundTrip.{groups_of_bytes, bytes_of_groups}
use Rattle.sheet.proofs.figures.SameFields.{only_fields, only_fields_at, sheet_from_same}
use Rattle.sheet.proofs.sheets.Making.{figures_of_sheet, valid_sheet, from_figures}
use Rattle.sheet.proofs.sheets.Valid.{fine_narrow, figures_end, figures_spare}
use Rattle.sheet.proofs.sheets.Answers.{read_from}
use Rattle.sheet.proofs.sheets.Reading.{read_cases}

pub bytes_length : (v : List ℕ) → length (bytes_of v) ≡ size
unfolding bytes_of
bytes_length v = listed_length _ 0 size

-- what is written of a sheet is read as that sheet
pub read_written : (s : Sheet) → Valid s → read_of (bytes_of (figures_of s)) ≡ Ok s
unfolding Valid
read_written s e =
    let v = figures_of s in
    let back = groups_of_bytes v (fine_narrow v e (figures_spare s)) in
    sym (read_from (bytes_of v) _ (bytes_length v) refl (back count (omega arith) ∙ figures_spare s))
    ∙ sheet_from_same (groups_of (bytes_of v)) v (λ k h. back k (omega arith))
    ∙ from_figures s e

-- a string of bytes that is read as a sheet passed each test
pub record Accepted (b : List ℕ) (s : Sheet) : Type 0 where
  pub long : length b ≡ size
  pub spare : nth (groups_of b) count ≡ 0
  pub none : first_bad (groups_of b) ≡ 0
  pub sheet : sheet_of (groups_of b) ≡ s

pub accepted : (b : List ℕ) (s : Sheet) → read_of b ≡ Ok s → Accepted b s
accepted b s =
    read_cases b (λ r. r ≡ Ok s → Accepted b s) (λ h e. never cc) (λ l z e. never cc) (λ k l z f n e. never cc)
    (λ l z f e. record { long = l; spare = z; none = f; sheet = cc })

pub read_valid : (b : List ℕ) (s : Sheet) → read_of b ≡ Ok s → Valid s
read_valid b s e = let a = accepted b s e in rw (← a.sheet) (valid_sheet (groups_of b) a.none)

-- figures with no spare bit are written in the bytes of those of their fields
bytes_of_only_fields : (v : List ℕ) → nth v count ≡ 0 → bytes_of (only_fields v) ≡ bytes_of v
unfolding bytes_of
bytes_of_only_fields v z =
    ap (λ (x : ℕ). listed (cut eight size x) 0 size)
    (joined_same width (nth (only_fields v)) (nth v) groups
    (below_more (λ (k : ℕ). nth (only_fields v) k ≡ nth v k) count (only_fields_at v)
    (figures_end (only_fields v) (listed_length (nth v) 0 count) ∙ sym z)))

-- where bytes are read as a sheet, it is valid, and they are its writing
pub written_read : (b : List ℕ) (s : Sheet) → Bytes b → read_of b ≡ Ok s → Written b s
written_read b s small e =
    let a = accepted b s e in
    let v = groups_of b in
    let back : figures_of s ≡ only_fields v = ap figures_of (sym a.sheet) ∙ figures_of_sheet v a.none in
    record { valid = read_valid b s e; writing = rw back (sym (bytes_of_only_fields v a.spare ∙ bytes_of_groups b a.long small)) }

pub one_writing : (a b : List ℕ) (s : Sheet) → Bytes a → Bytes b → read_of a ≡ Ok s → read_of b ≡ Ok s → a ≡ b
one_writing a b s ha hb ea eb = (written_read a s ha ea).writing ∙ sym (written_read b s hb eb).writing

-- writing into any place that is large enough, and reading its first 28 bytes
pub read_place : (s : Sheet) (place : List ℕ) → size ≤ length place → Valid s → read_of (take size (place_of s place)) ≡ Ok s
unfolding Valid place_of
read_place s place l e =
    rw (
      le-ltb (length place) size l,
      eq-eqb (first_bad (figures_of s)) 0 e,
      take_at (bytes_of (figures_of s)) (drop size place) size (bytes_length (figures_of s)),
    )
    (read_written s e)
