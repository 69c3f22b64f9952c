-- What a design promises, demand by demand, then the numbers that turn a sheet away (sections 0, 8, 9 and 11); each is cited from its proof.
-- `design_of` is what `design` ensures, `design_at` what `design_at` does and `numbers_of` what `numbers` does; each of `bytes` is a byte, as `Bytes`
-- says.
use Rattle.std.specs.Prelude.{Result, Ok, Err}
use mathlib.Core.Path.{◌≡◌, refl}
use mathlib.Core.List.{List, [], ◌∷◌, map}
use mathlib.Core.Logic.{◌↔◌, ◌≢◌, ◌⊎◌}
use Prim.Native.Nat.{ℕ, ◌-◌, ◌≤◌}
use native.Mathlib.Omega.{arith}
use lib.Dec.{T}
use lib.IntN.{ℤ, pos}
use lib.ListN.{length, take, replicate}
use mir.Syntax.{w32}
use mir.Val.{SFits}
use Rattle.laws.specs.Each.{Each}
use Rattle.laws.specs.Extremes.{Least}
use Rattle.laws.specs.Rows.{NoneBefore, None, Listed, Exactly}
use Rattle.laws.proofs.Rows.{absent}
use Rattle.laws.proofs.Unique.{one_answer}
use Rattle.datum.specs.Datum.{level_of}
use Rattle.datum.specs.declared.Level.{Level}
use Rattle.datum.specs.declared.BelowLevel.{BelowLevel}
use Rattle.sheet.specs.Fields.{Bad}
use Rattle.sheet.specs.Packing.{size, groups_of, Bytes}
use Rattle.sheet.specs.Refusals.{read_rows}
use Rattle.sheet.specs.Sheets.{read_of, written_of, place_of}
use Rattle.sheet.specs.declared.Sheet.{Sheet}
use Rattle.sheet.specs.declared.LevelSource.{LevelSource}
use Rattle.sheet.specs.declared.ReadFault.TheVariants.{BadField}
use Rattle.sheet.proofs.Promises.{written_and_read, each_one_writing}
use Rattle.gauge.specs.Adding.{addition, addition_number, table_after}
use Rattle.gauge.specs.Designing.{design_level, level_rows}
use Rattle.lanes.specs.Lanes.{lane_count}
use Rattle.lanes.specs.declared.Lanes.{Lanes}
use Rattle.gauge.specs.declared.LevelFault.TheVariants.{WrongTable}
use Rattle.gauge.proofs.Promises.{refused_changes_nothing}
use Rattle.depth.specs.Depth.{Meets}
use Rattle.depth.specs.declared.DepthFault.{DepthFault}
use Rattle.depth.specs.declared.Stretch.{Stretch as DepthStretch}
use Rattle.width.specs.declared.Stretch.{Stretch as WidthStretch}
use Rattle.speed.specs.declared.Section.{Section}
use Rattle.design.specs.Design.{level_for, depth_stretch, width_stretch, speed_section, design_at, design_of}
use Rattle.design.specs.Numbers.{code_of, field_of, number_count, numbers_of}
use Rattle.design.specs.Refusals.{reason_number, reason_field, sheet_in, UnderThreeBeams, level_in, off_record, rows}
use Rattle.design.specs.Answers.{stretch_of, FiguresAre, WorkedFrom}
use Rattle.design.specs.Harder.{cut, width, Hardening, hardenings, Sixteen, Seventeen, BySpeed, NoEasier, BothPass, EasierPasses, AnyTwo, NeverEasier, NeverEasierBut, ◌never_lessens◌}
use Rattle.design.specs.Growth.{Deeper, CentimetreForCentimetre, loads, NamesTwo, growths, Grown}
use Rattle.design.specs.Starred.{writing, starred_sheets, starred_numbers}
use Rattle.design.specs.declared.Figures.{Figures}
use Rattle.design.specs.declared.Reason.{Reason}
use Rattle.design.specs.declared.Reason.TheVariants.{NoSheet, NoDepth}
use Rattle.design.proofs.answers.Numbers as the-numbers
use Rattle.design.proofs.rows.Readings.{sheet_read, level_read, other_length}
use Rattle.design.proofs.answers.Figures.{figures_only}
use Rattle.design.proofs.answers.Worked.{answered_worked}
use Rattle.design.proofs.Fitting.{design_fits}
use Rattle.design.proofs.rows.Exactly.{design_exactly, field_exactly, figures_exactly, no_depth_only as no_depth_said}
use Rattle.design.proofs.rows.Exchanged.{exchanged}
use Rattle.design.proofs.harder.Never as the-harder
use Rattle.design.proofs.harder.Cured as the-cure
use Rattle.design.proofs.harder.Deepening as the-deeper
use Rattle.design.proofs.harder.Growths.{each_grown}
use Rattle.gauge.specs.declared.LevelFault.{LevelFault}
use Rattle.design.proofs.Starred as the_starred

-- Demand 1
module _ (bytes table : List ℕ) where
  -- Every string of bytes is read as a sheet or refused by a fixed number: past 1, 2 and 3 it is the sheet of which the later rows speak.
  pub sheet_is_read : Bytes bytes → None (read_rows bytes) → read_of bytes ≡ Ok (sheet_in bytes)
  sheet_is_read = sheet_read bytes table

  -- Nothing is left for the caller to check first: any bytes over any table are answered, by 0, or refused by the number of a row.
  pub code_is_known : (code_of (design_of bytes table) ≡ 0) ⊎ Listed (rows bytes table) (code_of (design_of bytes table))
  code_is_known = the-numbers.code_listed bytes table (design_of bytes table)

  -- A number that is no row's is never given: 9 is retired.
  pub unlisted_never : (number : ℕ) → 1 ≤ number → T (absent number (rows bytes table)) → code_of (design_of bytes table) ≢ number
  unlisted_never = the-numbers.code_never bytes table (design_of bytes table)

  pub nine_never : code_of (design_of bytes table) ≢ 9
  unfolding rows
  nine_never = unlisted_never 9 (omega arith) tt

-- A refused sheet yields its number, the place of a bad field, and zeros.
pub refused_figures_zero : (r : Reason) → numbers_of (Err r) ≡ pos (reason_number r) ∷ pos (reason_field r) ∷ replicate (number_count - 2) (pos 0)
unfolding numbers_of
refused_figures_zero r = refl

-- A refused reading leaves the level table untouched.
pub refused_reading : (table : List ℕ) (reading : ℤ) → addition_number (addition table reading) ≢ 0 → table_after table reading ≡ table
refused_reading = refused_changes_nothing

-- Demand 2
module _ (bytes table : List ℕ) (small : Bytes bytes) where
  -- Level, lanes, depth, width, widening and classes are those of the definition: an answered design has the figures of its sheet at its level,
  -- and no other answer has them.
  pub answered_exactly : (f : Figures)
      → (design_of bytes table ≡ Ok f)
      ↔ (None (rows bytes table) × FiguresAre (sheet_in bytes) (level_in (sheet_in bytes) table) f)
  answered_exactly = figures_exactly bytes table small

-- A sheet has one row of figures at a level.
pub one_row_of_figures : (s : Sheet) (level : Level) (f g : Figures) → FiguresAre s level f → FiguresAre s level g → f ≡ g
one_row_of_figures = figures_only

-- The figures of an answer are those of the rooms' calls on what `working` picks out of the sheet, at any level that was read.
pub worked_from : (bytes : List ℕ) (read : Result Level LevelFault) (s : Sheet) (f : Figures) → read_of bytes ≡ Ok s → design_at bytes read ≡ Ok f
    → WorkedFrom s read f
worked_from = answered_worked

-- A sheet written and read again is the same sheet.
pub written_and_read_again : (s : Sheet) (place : List ℕ) → written_of s place ≡ (Ok tt) → read_of (take size (place_of s place)) ≡ Ok s
written_and_read_again = written_and_read

-- Each sheet has one writing.
pub one_writing_each : (a b : List ℕ) (s : Sheet) → Bytes a → Bytes b → read_of a ≡ Ok s → read_of b ≡ Ok s → a ≡ b
one_writing_each = each_one_writing

-- Demand 3
module _ (bytes table : List ℕ) (small : Bytes bytes) where
  -- The cut is the least whole centimetre that meets its own need.
  pub least_cut : (f : Figures) → design_of bytes table ≡ Ok f
      → Least (Meets (stretch_of (sheet_in bytes) (level_in (sheet_in bytes) table))) f.cut.0
  least_cut f e = ((answered_exactly bytes table small f).0 e).1.cut

  -- "No depth", for any of the three reasons, is said only when none up to 30 m does.
  pub no_depth_only : (fault : DepthFault) → design_of bytes table ≡ Err (NoDepth fault) → (d : ℕ) → ¬ Meets (stretch_of (sheet_in bytes) (level_in (sheet_in bytes) table)) d
  no_depth_only = no_depth_said bytes table small

-- Over one table, of two sheets with every field in range that differ in one of these figures and come to the same lanes, the one with the
-- greater figure is answered only where the other is, or has 16 or 17; and where both are answered its cut is no shallower (draft, length, speed, wave
-- allowance, silting rate, soil) or its width no narrower (beam, wind, cross current, along current, wave height). Of two that both pass 18;
pub never_easier : Each (NeverEasier BothPass) hardenings
never_easier = the-harder.of_two_that_pass

-- it is enough that the easier one passes it;
pub never_easier_past : Each (NeverEasier EasierPasses) hardenings
never_easier_past = the-harder.easier_passes

-- and of any two, where the greater figure is not the length.
pub never_easier_unless_longer : Each (λ (h : Hardening). h.field ≢ 3 → NeverEasier AnyTwo h) hardenings
never_easier_unless_longer = the-harder.any_but_longer

-- Without a test of 18 the sentence of the length would be false: S with a beam of 40 m is refused at a length of 119.99 m, and answered at 120 m.
pub longer_cures_18 : ¬ NeverEasier AnyTwo (3 never_lessens cut)
longer_cures_18 = the-cure.longer_cures_18

-- Its sentence on refusals leaves 16 and 17 out, and with either left in that of the beam would be false: S with a slope of 4 is refused by 16 at a
-- bed of 2 m and a beam of 10 m, by 17 at a bed of 1 m and a beam of 12 m, and each is answered with a beam that is 2 m greater.
pub wider_cures_16 : ¬ NeverEasierBut Seventeen BothPass (4 never_lessens width)
wider_cures_16 = the-cure.wider_cures_16

pub wider_cures_17 : ¬ NeverEasierBut Sixteen BothPass (4 never_lessens width)
wider_cures_17 = the-cure.wider_cures_17

-- Centimetre for centimetre: of two sheets over one table that differ in the draft alone, or in the wave allowance alone, and are both answered, the cut
-- grows by at least as many centimetres as the figure.
pub centimetre_for_centimetre : Each CentimetreForCentimetre loads
centimetre_for_centimetre = the-deeper.each_centimetre

-- Naming two lanes, where one was named or the traffic gave them, never gives a shallower cut where both sheets are answered,
pub two_lanes_never_shallower : (fewer two table : List ℕ) → Bytes fewer → Bytes two → NamesTwo fewer two → Deeper 0 (design_of fewer table) (design_of two table)
two_lanes_never_shallower = the-deeper.two_never_shallower

-- nor does it turn a refusal other than 16 and 17 into an answer.
pub two_lanes_never_easier : (fewer two table : List ℕ) → Bytes fewer → Bytes two → NamesTwo fewer two → NoEasier BySpeed cut (design_of fewer table) (design_of two table)
two_lanes_never_easier = the-deeper.two_never_easier

-- No more can be promised, and it may cost more. S with a draft of 9.99 and then 10 m: the cut grows by 1 cm; of 10 and then 10.01 m: by 2. With an
-- allowance of 30 and then 31 cm: by 1; over a bed of 5.78 m with 31 and then 32: by 16. In one lane and then two, at 2 knots: by nothing; at 8: by 40.
pub growth_computed : Each Grown growths
growth_computed = each_grown

-- The numbers that turn a sheet away
module _ (bytes table : List ℕ) (small : Bytes bytes) where
  -- A number is given exactly when its row holds and none checked before it does; every other call is answered.
  pub number_given : Exactly (rows bytes table) (code_of (design_of bytes table))
  number_given = design_exactly bytes table small

  -- 3: the first bad field's number is given.
  pub first_bad_field : (k : ℕ) → (design_of bytes table ≡ Err (NoSheet (BadField k))) ↔ (Least (Bad (groups_of bytes)) k × NoneBefore (rows bytes table) 3)
  first_bad_field = field_exactly bytes table small

-- 18: a sheet that passes it, with length and beam in each other's places, does not: where it is a sheet at all, its number is 18.
pub exchanged_is_18 : (bytes other table : List ℕ) → Bytes other → read_of bytes ≡ Ok (sheet_in bytes) → read_of other ≡ Ok (sheet_in other)
    → ¬ UnderThreeBeams (sheet_in bytes) → (sheet_in other).length ≡ (sheet_in bytes).beam → (sheet_in other).beam ≡ (sheet_in bytes).length
    → code_of (design_of other table) ≡ 18
exchanged_is_18 = exchanged

-- 1, whatever the level: not 28 bytes.
pub other_length_one : (bytes : List ℕ) (read : Result Level LevelFault) → length bytes ≢ size → code_of (design_at bytes read) ≡ 1
other_length_one = other_length

-- 0 exactly when the design is answered.
pub zero_when_answered : (a : Result Figures Reason) → (code_of a ≡ 0) ↔ ((f : Figures) × (a ≡ Ok f))
zero_when_answered = the-numbers.zero_exactly

-- Past 4, 5 and 6 the sheet has its level: its own, or the one read off the table.
pub level_is_had : (bytes table : List ℕ) → None (off_record (sheet_in bytes).level (level_rows table))
    → level_for (sheet_in bytes).level (design_level table) ≡ Ok (level_in (sheet_in bytes) table)
level_is_had = level_read

-- A design over a table is the design at the level that the table gives.
pub table_gives_level : (bytes table : List ℕ) → design_of bytes table ≡ design_at bytes (design_level table)
unfolding design_of
table_gives_level bytes table = refl

-- A design at refusal 4 is the design over a table of no slots.
pub no_table : (bytes : List ℕ) → design_at bytes (Err WrongTable) ≡ design_of bytes []
unfolding design_of design_level
no_table bytes = refl

-- The numbers of an answer
-- There are thirteen: 0 or the number, the field, and the figures.
pub all_numbers : (a : Result Figures Reason) → length (numbers_of a) ≡ number_count
all_numbers = the-numbers.counted

pub how_many : number_count ≡ 13
how_many = refl

pub code_and_field_first : (a : Result Figures Reason) → take 2 (numbers_of a) ≡ pos (code_of a) ∷ pos (field_of a) ∷ []
code_and_field_first = the-numbers.code_and_field

-- The field is 0 unless the number is 3.
pub field_zero_unless : (a : Result Figures Reason) → code_of a ≢ 3 → field_of a ≡ 0
field_zero_unless = the-numbers.field_unless

-- A number and its field name one reason.
pub one_reason : (r t : Reason) → reason_number r ≡ reason_number t → reason_field r ≡ reason_field t → r ≡ t
one_reason = the-numbers.one_reason

-- An answered design has code 0, field 0, and its level, lanes, s, cut, datum depth, width, widening, columns tried and three classes.
pub answered_figures : (f : Figures)
    → numbers_of (Ok f)
    ≡ pos 0 ∷ pos 0 ∷ level_of f.level ∷ pos (lane_count f.lanes) ∷ pos f.sailing.0 ∷ pos f.cut.0 ∷ f.datum.0 ∷ f.width
    ∷ f.widening ∷ pos f.columns ∷ pos f.classes.ship ∷ pos f.classes.width ∷ pos f.classes.depth ∷ []
unfolding numbers_of
answered_figures f = refl

-- All of them fit 32 bits, signed.
pub numbers_fit : (bytes table : List ℕ) → Bytes bytes → Each (SFits w32) (numbers_of (design_of bytes table))
numbers_fit = design_fits

-- Each call has one result.
pub design_unique : (bytes table : List ℕ) (r s : Result Figures Reason) → r ≡ design_of bytes table → s ≡ design_of bytes table → r ≡ s
design_unique bytes table = one_answer

pub design_at_unique : (bytes : List ℕ) (read : Result Level LevelFault) (r s : Result Figures Reason) → r ≡ design_at bytes read → s ≡ design_at bytes read → r ≡ s
design_at_unique bytes read = one_answer

pub level_for_unique : (source : LevelSource) (read r s : Result Level LevelFault) → r ≡ level_for source read → s ≡ level_for source read → r ≡ s
level_for_unique source read = one_answer

pub depth_stretch_unique : (sheet : Sheet) (level : Level) (lanes : Lanes) (r s : DepthStretch)
    → r ≡ depth_stretch sheet level lanes → s ≡ depth_stretch sheet level lanes → r ≡ s
depth_stretch_unique sheet level lanes = one_answer

pub width_stretch_unique : (sheet : Sheet) (lanes : Lanes) (sailing : BelowLevel) (r s : WidthStretch)
    → r ≡ width_stretch sheet lanes sailing → s ≡ width_stretch sheet lanes sailing → r ≡ s
width_stretch_unique sheet lanes sailing = one_answer

pub section_unique : (sheet : Sheet) (level : Level) (width : ℕ) (cut : BelowLevel) (r s : Section)
    → r ≡ speed_section sheet level width cut → s ≡ speed_section sheet level width cut → r ≡ s
section_unique sheet level width cut = one_answer

pub code_unique : (design : Result Figures Reason) (r s : ℕ) → r ≡ code_of design → s ≡ code_of design → r ≡ s
code_unique design = one_answer

pub reason_unique : {Fault : Type 0} (of_room : Fault → Reason) (fault : Fault) (r s : Reason) → r ≡ of_room fault → s ≡ of_room fault → r ≡ s
reason_unique of_room fault = one_answer

pub reason_number_unique : (reason : Reason) (r s : ℕ) → r ≡ reason_number reason → s ≡ reason_number reason → r ≡ s
reason_number_unique reason = one_answer

pub reason_field_unique : (reason : Reason) (r s : ℕ) → r ≡ reason_field reason → s ≡ reason_field reason → r ≡ s
reason_field_unique reason = one_answer

pub numbers_unique : (design : Result Figures Reason) (r s : List ℤ) → r ≡ numbers_of design → s ≡ numbers_of design → r ≡ s
numbers_unique design = one_answer

-- The starred cases, from the bytes of their sheets: the sheets that these are read as, and their numbers over any table, as their levels are given.
pub starred_sheets_lem : map (λ (s : Sheet). read_of (writing s)) starred_sheets ≡ map Ok starred_sheets
starred_sheets_lem = the_starred.starred_read

pub starred : (table : List ℕ) → map (λ (s : Sheet). numbers_of (design_of (writing s) table)) starred_sheets ≡ starred_numbers
starred = the_starred.starred
