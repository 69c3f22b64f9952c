-- Each row before 16 that turns the easier of two sheets away turns the harder away, or leaves it without a depth, and what meets the harder one's depth
-- meets the easier one's; so where the harder is answered the easier is, and only their figures are left to compare, or it has 16 or 17.
use Rattle.std.specs.Prelude.{Result, Ok, Err}
use mathlib.Core.Path.{◌≡◌, refl, sym, ap, ap₂, subst}
use mathlib.Core.List.{List}
use mathlib.Core.Logic.{◌⊎◌, inl, inr}
use Prim.Native.Nat.{ℕ, zero, suc, ◌+◌, ◌≤◌}
use native.Mathlib.Omega.{arith}
use lib.IntN.{ℤ, pos}
use lib.Dec.{le→leb}
use lib.Signed.{◌≤ℤ◌}
use Rattle.laws.specs.Each.{◌&◌}
use Rattle.laws.specs.Rows.{None, Exactly}
use Rattle.laws.proofs.Rows.{from, before, Carried, carried, none_held, none_before, held_from, held_listed}
use Rattle.laws.proofs.Extremes.{least_grows}
use Rattle.datum.specs.Datum.{below_chart, natural_depth}
use Rattle.sheet.specs.Fields.{fields, field_at, least}
use Rattle.sheet.specs.Packing.{groups_of, Bytes}
use Rattle.sheet.specs.Sheets.{level_source_of, sheet_of, read_of}
use Rattle.sheet.specs.Refusals.{read_number}
use Rattle.sheet.specs.declared.Sheet.{Sheet}
use Rattle.sheet.specs.declared.LevelSource.{LevelSource}
use Rattle.sheet.proofs.sheets.OneWriting.{accepted}
use Rattle.sheet.proofs.sheets.Reading.{read_exactly}
use Rattle.sheet.proofs.sheets.Valid.{fine}
use Rattle.depth.specs.Interval.{interval_of}
use Rattle.depth.specs.Squat.{squat_reading}
use Rattle.depth.specs.Depth.{Meets}
use Rattle.depth.specs.Harder.{Harder as HarderDepth}
use Rattle.depth.specs.Reasons.{FirstUnusable}
use Rattle.depth.specs.declared.DepthFault.{DepthFault}
use Rattle.depth.specs.declared.DepthFault.TheVariants.{NoSquatEntry, SiltOver, CutOver}
use Rattle.depth.proofs.Promises.{meets_higher, meets_the_easier, unusable_none}
use Rattle.width.specs.Refusals.{TightBend, NoWidthEntry}
use Rattle.width.proofs.Refusals.{tight_too, missing_too}
use Rattle.design.specs.Design.{lanes_for}
use Rattle.design.specs.Refusals.{reason_number, sheet_in, level_in, level_from, rows, BendTight, EntryMissing, OffRecord}
use Rattle.design.specs.Numbers.{code_of}
use Rattle.design.specs.Answers.{stretch_of, FiguresAre}
use Rattle.design.specs.Harder.{cut, Passes, BySpeed, NoEasier, no_less, refused as harder_refused, cured}
use Rattle.design.specs.declared.Figures.{Figures}
use Rattle.design.specs.declared.Reason.{Reason}
use Rattle.design.proofs.answers.Numbers.{refused_some}
use Rattle.design.proofs.rows.Exactly.{Ended}
use Rattle.design.proofs.harder.Compared.{hardens, Compared}

-- the rows, and what the two depths are worked from
module _ (easy hard table : List ℕ) (read : read_of easy ≡ Ok (sheet_in easy)) (lanes : squat_reading (lanes_for (sheet_in easy)) ≤ squat_reading (lanes_for (sheet_in hard)))
    (c : Compared hardens easy hard) where
  abbrev s : Sheet
  s = sheet_in easy

  abbrev s' : Sheet
  s' = sheet_in hard

  -- the level, the bend and the water are the same
  level_same : s.level ≡ s'.level
  unfolding sheet_of
  level_same = ap₂ level_source_of (c.same 27 refl) (c.same 28 refl)

  off_record_too : (Fault : Type 0) → OffRecord s.level Fault → OffRecord s'.level Fault
  off_record_too Fault = subst (λ (source : LevelSource). OffRecord source Fault) level_same

  tight : BendTight s → BendTight s'
  unfolding sheet_of
  tight row =
      tight_too s'.turn s'.radius s.length s'.length (c.rises 3 refl)
      (subst (λ (turn : ℕ). TightBend turn s'.radius s.length) (c.same 25 refl)
      (subst (λ (radius : ℕ). TightBend s.turn radius s.length) (c.same 26 refl) row))

  missing : EntryMissing s → EntryMissing s'
  unfolding sheet_of
  missing row =
      missing_too s'.water s.cross s'.cross s.wave s'.wave (c.rises 17 refl) (c.rises 19 refl)
      (subst (λ (water : ℕ). NoWidthEntry water s.cross s.wave) (c.same 14 refl) row)

  pub level_in_same : level_in s table ≡ level_in s' table
  level_in_same = ap (λ (source : LevelSource). level_from source table) level_same

  depth_harder : HarderDepth (stretch_of s (level_in s table)) (stretch_of s' (level_in s' table))
  unfolding sheet_of
  depth_harder =
      record {
        draft = c.rises 2 refl;
        length = c.rises 3 refl;
        soil = c.rises 7 refl;
        wave = c.rises 8 refl;
        silting = c.rises 9 refl;
        interval = le_of_eq (ap interval_of (c.same 10 refl));
        speed = c.rises 5 refl;
        lanes = lanes;
        natural = sym (ap₂ (λ bed level. (natural_depth bed level).0) (ap (λ (cm : ℕ). below_chart (pos cm)) (c.same 6 refl)) level_in_same);
      }
    where
      le_of_eq : {m n : ℕ} → m ≡ n → m ≤ n
      le_of_eq e = omega arith

  -- every speed of a sheet is one of the squat's table
  speed_read : 2 ≤ s.speed
  unfolding sheet_of least field_at fields
  speed_read = (fine (groups_of easy) (accepted easy s read).none 4 (omega arith)).low

  meets_too : (d : ℕ) → Meets (stretch_of s' (level_in s' table)) d → Meets (stretch_of s (level_in s table)) d
  meets_too = meets_the_easier _ _ depth_harder speed_read

  -- no depth, for whichever reason, stays no depth
  no_depth_too : (fault : DepthFault) → FirstUnusable (stretch_of s (level_in s table)) fault → (d : ℕ) → ¬ Meets (stretch_of s' (level_in s' table)) d
  no_depth_too fault u d m = unusable_none _ fault u d (meets_too d m)

  -- 18 is passed by the easier where it is by the harder
  module _ (small : Bytes easy) (ship : Passes hard → Passes easy) where
    -- each row before 16 that turns the easier sheet away turns the harder away, or leaves it without a depth
    rows_carried : (d : ℕ) → Meets (stretch_of s' (level_in s' table)) d → Carried (before 16 (rows easy table)) (before 16 (rows hard table))
    unfolding rows
    rows_carried d meets =
        let good = (read_exactly easy small).else_answered.0 (ap read_number read) in
        (λ h. good.0)
        & (λ h. good.1.0)
        & (λ h. good.1.1.0)
        & ship
        & (λ h row. h (off_record_too _ row))
        & (λ h row. h (off_record_too _ row))
        & (λ h row. h (off_record_too _ row))
        & (λ h row. h (tight row))
        & (λ h row. h (missing row))
        & (λ h row. no_depth_too NoSquatEntry row d meets)
        & (λ h row. no_depth_too SiltOver row d meets)
        & (λ h row. no_depth_too CutOver row d meets)
        & tt

    -- so the easier one is answered, or has 16 or 17
    speed_left : (code : ℕ) → Exactly (rows easy table) code → None (before 16 (rows easy table)) → (code ≡ 0) ⊎ ((code ≡ 16) ⊎ (code ≡ 17))
    unfolding rows
    speed_left zero exact none = inl refl
    speed_left (suc n) exact none =
        go (held_listed (from 16 (rows easy table)) (suc n) (held_from 16 (rows easy table) none (suc n) ((exact.number_given (suc n) (omega arith)).0 refl).0))
      where
        go : (suc n ≡ 16) ⊎ ((suc n ≡ 17) ⊎ ⊥) → (suc n ≡ 0) ⊎ ((suc n ≡ 16) ⊎ (suc n ≡ 17))
        go (inl e) = inr (inl e)
        go (inr (inl e)) = inr (inr e)
        go (inr (inr e)) = absurd e

    by_speed_lem : (r : Reason) → (reason_number r ≡ 0) ⊎ BySpeed r → BySpeed r
    by_speed_lem r (inl none) = absurd (refused_some r none)
    by_speed_lem r (inr left) = left

    -- and only the figures are left to compare
    pub no_easier : (figure : Figures → ℤ)
        → ((f g : Figures) → ¬ EntryMissing s' → FiguresAre s (level_in s table) f → FiguresAre s' (level_in s' table) g → (figure f ≤ℤ figure g))
        → (a b : Result Figures Reason) → Exactly (rows easy table) (code_of a) → Ended easy table a → Ended hard table b → NoEasier BySpeed figure a b
    unfolding rows
    no_easier figure at_most a (Err r) exact t u = harder_refused
    no_easier figure at_most a (Ok g) exact t (inr u) = absurd u.1
    no_easier figure at_most (Ok f) (Ok g) exact (inl t) (inl u) =
        no_less (at_most f g (none_held (rows hard table) u.0 8) t.1 u.1)
    no_easier figure at_most (Ok f) (Ok g) exact (inr t) (inl u) = absurd t.1
    no_easier figure at_most (Err r) (Ok g) exact t (inl u) =
        cured (by_speed_lem r (speed_left (reason_number r) exact
        (carried (before 16 (rows easy table)) (before 16 (rows hard table)) (rows_carried g.cut.0 u.1.cut.holds) (none_before 16 (rows hard table) u.0))))

  -- the cut, by one argument: at least as many centimetres as draft and wave allowance together are greater by
  pub cut_grows : (cm : ℕ) → s.draft + s.allowance + cm ≤ s'.draft + s'.allowance
      → (f g : Figures) → FiguresAre s (level_in s table) f → FiguresAre s' (level_in s' table) g → f.cut.0 + cm ≤ g.cut.0
  cut_grows cm more f g are are' =
      least_grows _ _ cm f.cut.0 g.cut.0 (meets_higher _ _ depth_harder cm more speed_read) are.cut are'.cut

  pub cut_rises : (f g : Figures) → ¬ EntryMissing s' → FiguresAre s (level_in s table) f → FiguresAre s' (level_in s' table) g → (cut f ≤ℤ cut g)
  unfolding sheet_of
  cut_rises f g there are are' =
      record { le = le→leb f.cut.0 g.cut.0 (let grows = cut_grows 0 (omega (arith, c.rises 2 refl, c.rises 8 refl)) f g are are' in omega arith) }
