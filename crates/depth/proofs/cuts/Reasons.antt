-- The reason of a depth that is not given: the worksheet comes to one column that it cannot leave, and that column fails by one test.
use Rattle.std.specs.Prelude.{Result, Ok, Err}
use mathlib.Core.Path.{◌≡◌, refl, sym, ap, subst, ◌∙◌}
use mathlib.Core.Bool.{Bool, true, false, true≢false}
use mathlib.Core.List.{List, [], ◌∷◌}
use mathlib.Core.Logic.{◌↔◌, inl, inr, ◌≢◌}
use Prim.Native.Nat.{ℕ, ◌≤◌, ◌<◌, zero-le}
use native.Mathlib.Omega.{arith}
use borrow.Author.Tests.{leb-true, leb-false}
use lib.Dec.{leb}
use lib.ListN.{length}
use Rattle.laws.proofs.Extremes.{least_only}
use Rattle.datum.specs.Datum.{below}
use Rattle.depth.specs.declared.Stretch.{Stretch}
use Rattle.depth.specs.declared.Column.{Column}
use Rattle.depth.specs.declared.Column.TheVariants.{A}
use Rattle.depth.specs.declared.Try.{Try}
use Rattle.depth.specs.declared.DepthFault.{DepthFault}
use Rattle.depth.specs.declared.DepthFault.TheVariants.{NoSquatEntry, SiltOver, CutOver}
use Rattle.depth.specs.declared.Finding.TheVariants.{Stays, Moves}
use Rattle.depth.specs.Squat.{column_number}
use Rattle.depth.specs.Depth.{natural_of, sailing, Deep, Serves, own_column, Meets, AsDefined, depth_fault_number, depth_number, NoDepthNumber}
use Rattle.depth.specs.Worksheet.{silt, figure, column_try, finding_of, is_move, moves_on, tries, last_try, answer_by, answer_of, work_depth, Followed, Counted}
use Rattle.depth.specs.Reasons.{IsFigure, Usable, Fails, Comes, there, by_way_of, FirstUnusable, Reasoned}
use Rattle.depth.proofs.squat.Columns.{column_up, same_column}
use Rattle.depth.proofs.walks.Findings.{no_entry, too_much_silt, too_deep, moves, Within, Past, Says, finding_says}
use Rattle.depth.proofs.cuts.Easier.{serves_earlier}
use Rattle.depth.proofs.cuts.Settling.{silt_stays, figure_is, line_figure}
use Rattle.depth.proofs.cuts.LeastCut.{last_stops, tries_followed, work_as_defined, work_counted}
use Rattle.depth.specs.declared.Finding.{Finding}
use Rattle.depth.specs.declared.DepthFigures.{DepthFigures}

-- a depth of these figures
abbrev cut_of : ℕ → ℕ → ℕ → Result DepthFigures DepthFault
cut_of cut sailing columns = Ok (record { cut = below cut; sailing = below sailing; columns = columns })

module _ (q : Stretch) where
  -- a column as its line has it
  within_figure : (c : Column) → silt q c ≤ 120 → IsFigure q c (figure q c)
  within_figure c h = figure_is q c (silt_stays q c (omega arith))

  past_fails : (c : Column) (fault : DepthFault) → Past (column_try q c) fault → Fails q c fault
  unfolding column_try
  past_fails c NoSquatEntry p = p
  past_fails c SiltOver p = (p.0, λ d f. omega (arith, p.1, (line_figure q c d f).1))
  past_fails c CutOver p =
      let f = within_figure c p.1 in
      (p.0, (figure q c, f, omega (arith, p.1, (line_figure q c (figure q c) f).1), p.2))

  fails_found : (c : Column) (fault : DepthFault) → Fails q c fault → Err fault ≡ finding_of (column_try q c)
  unfolding column_try
  fails_found c NoSquatEntry p = no_entry _ p
  fails_found c SiltOver p = too_much_silt _ p.0 (over (leb (silt q c) 120) refl)
    where
      over : (b : Bool) → leb (silt q c) 120 ≡ b → 120 < silt q c
      over true e = let f = within_figure c (leb-true _ _ e) in absurd (omega (arith, leb-true, p.1 (figure q c) f, (line_figure q c (figure q c) f).1))
      over false e = leb-false _ _ e
  fails_found c CutOver p =
      let f = line_figure q c p.1.0 p.1.1 in
      too_deep _ p.0 (omega (arith, p.1.2, f.1)) (omega (arith, p.1.3, f.0))

  -- a column that moves on can be used, and its figure falls in another
  moving : (t : Try) → moves_on t ≡ true → Within t × (column_number t.falls_in ≡ column_number t.column → ⊥)
  unfolding moves_on
  moving t e = go (finding_of t) (finding_says t) e
    where
      go : (f : Result Finding DepthFault) → Says t f → is_move f ≡ true → Within t × (column_number t.falls_in ≡ column_number t.column → ⊥)
      go (Ok Stays) s e = absurd (true≢false (sym e))
      go (Ok Moves) s e = s
      go (Err fault) s e = absurd (true≢false (sym e))

  moves_usable : (c : Column) → moves_on (column_try q c) ≡ true → Usable q c (figure q c) × (own_column q (figure q c) ≢ c)
  unfolding column_try
  moves_usable c e =
      let m = moving (column_try q c) e in
      let f = within_figure c m.0.silt in (
        record { entry = m.0.entry; figure = f; silt = omega (arith, m.0.silt, (line_figure q c (figure q c) f).1); to = m.0.to },
        λ same. m.1 (ap column_number same),
      )

  usable_moves : (c : Column) (d : ℕ) → Usable q c d → own_column q d ≢ c → moves_on (column_try q c) ≡ true
  unfolding column_try moves_on
  usable_moves c d u other =
      let f = line_figure q c d u.figure in
      ap is_move
      (sym
      (moves (column_try q c) u.entry (omega (arith, u.silt, f.1)) (omega (arith, u.to, f.0))
      (λ same. other (ap (own_column q) (sym f.0) ∙ same_column _ _ same))))

  -- tries that are followed come to the column of the last
  record Last (c : Column) (t : Try) : Type 0 where
    column : Column
    comes : Comes q c column
    line : t ≡ column_try q column

  falls : (c : Column) (t : Try) → t ≡ column_try q c → t.falls_in ≡ own_column q (figure q c)
  unfolding column_try
  falls c t e = ap (λ (s : Try). s.falls_in) e

  comes_to : (c : Column) (l : List Try) → Followed (column_try q) c l → Last c (last_try l)
  comes_to c [] f = absurd f
  comes_to c (t ∷ []) f = record { column = c; comes = there c; line = f.0 }
  comes_to c (t ∷ (u ∷ l)) f = onward (comes_to t.falls_in (u ∷ l) f.2)
    where
      onward : Last t.falls_in (last_try (u ∷ l)) → Last c (last_try (u ∷ l))
      onward r =
          let m = moves_usable c (sym (ap moves_on f.0) ∙ f.1) in
          record {
            column = r.column;
            comes = by_way_of c r.column (figure q c) m.0 m.1 (subst (λ (b : Column). Comes q b r.column) (falls c t f.0) r.comes);
            line = r.line;
          }

  -- whatever a column serves falls there or in a later one
  abbrev Onward : Column → Type 0
  Onward c = (d : ℕ) → Serves q c d → column_number c ≤ column_number (own_column q d)

  pub usable_serves : (c : Column) (d : ℕ) → Usable q c d → Serves q c d
  usable_serves c d u = record { entry = u.entry; silt = u.silt; deep = u.figure.holds }

  -- so it is of each column that is come to: what serves it serves the one before, and is as deep as its figure
  onward : (c c' : Column) → Comes q c c' → Onward c → Onward c'
  onward c c' (there _) o = o
  onward c c' (by_way_of _ _ d u other r) o =
      onward (own_column q d) c' r
      (λ e v. column_up (natural_of q) d e (u.figure.least e (serves_earlier q c (own_column q d) e (o d (usable_serves c d u)) v).deep))

  pub never_back : (c : Column) (d : ℕ) → Comes q A c → Usable q c d → column_number c ≤ column_number (own_column q d)
  never_back c d r u = onward A c r (λ e v. zero-le) d (usable_serves c d u)

  -- a column that it cannot leave
  abbrev Stops : Column → Type 0
  Stops c = (d : ℕ) → Usable q c d → own_column q d ≢ c → ⊥

  still_stops : (c : Column) → moves_on (column_try q c) ≡ false → Stops c
  still_stops c e d u other = true≢false (sym (usable_moves c d u other) ∙ e)

  fails_stops : (c : Column) (fault : DepthFault) → Fails q c fault → Stops c
  unfolding moves_on
  fails_stops c fault p = still_stops c (ap is_move (sym (fails_found c fault p)))

  -- it comes to one such column
  one_end : (c a b : Column) → Comes q c a → Comes q c b → Stops a → Stops b → a ≡ b
  one_end c a b (there _) (there _) sa sb = refl
  one_end c a b (there _) (by_way_of _ _ d u n r) sa sb = absurd (sa d u n)
  one_end c a b (by_way_of _ _ d u n r) (there _) sa sb = absurd (sb d u n)
  one_end c a b (by_way_of _ _ d u n r) (by_way_of _ _ e u' n' r') sa sb =
      let same = least_only (Deep q c) e d u'.figure u.figure in
      one_end (own_column q d) a b r (subst (λ (x : ℕ). Comes q (own_column q x) b) same r') sa sb

  the_last : Last A (last_try (tries q))
  the_last = comes_to A (tries q) (tries_followed q)

  last_found : (fault : DepthFault) → FirstUnusable q fault → finding_of (last_try (tries q)) ≡ Err fault
  last_found fault u =
      let stops = still_stops the_last.column (sym (ap moves_on the_last.line) ∙ last_stops q) in
      let same = one_end A the_last.column u.column the_last.comes u.reached stops (fails_stops u.column fault u.fails) in
      ap finding_of the_last.line ∙ ap (λ (c : Column). finding_of (column_try q c)) same ∙ sym (fails_found u.column fault u.fails)

  -- the reason of the last try
  answer_reasoned : (f : Result Finding DepthFault) → finding_of (last_try (tries q)) ≡ f → Reasoned q (answer_by f (last_try (tries q)) (length (tries q)))
  unfolding moves_on
  answer_reasoned (Ok Stays) e = tt
  answer_reasoned (Ok Moves) e = absurd (true≢false (sym (ap is_move e) ∙ last_stops q))
  answer_reasoned (Err fault) e =
      record {
        column = the_last.column;
        reached = the_last.comes;
        fails = past_fails the_last.column fault (subst (Says _) (sym (ap finding_of the_last.line) ∙ e) (finding_says (column_try q the_last.column)));
      }

  pub work_reasoned : Reasoned q (work_depth q)
  unfolding work_depth answer_of
  work_reasoned = answer_reasoned (finding_of (last_try (tries q))) refl

  pub reason_exactly : (fault : DepthFault) → (work_depth q ≡ Err fault) ↔ FirstUnusable q fault
  unfolding work_depth answer_of
  reason_exactly fault = (
    (λ e. subst (Reasoned q) e work_reasoned),
    (λ u. ap (λ (f : Result Finding DepthFault). answer_by f (last_try (tries q)) (length (tries q))) (last_found fault u)),
  )

  -- one depth is as defined, with its count and its reason
  one_depth : (r s : Result DepthFigures DepthFault) → AsDefined q r → AsDefined q s → Counted q r → Counted q s → Reasoned q r → Reasoned q s → r ≡ s
  one_depth (Ok f) (Ok g) a b m n o p =
      let e : f.cut.0 ≡ g.cut.0 = least_only (Meets q) f.cut.0 g.cut.0 a.cut b.cut in
      let k : f.sailing.0 ≡ g.sailing.0 = a.sailing_depth ∙ ap (λ (d : ℕ). sailing q (own_column q d)) e ∙ sym b.sailing_depth in
      let l : f.columns ≡ g.columns = m ∙ sym n in
      ap (λ (d : ℕ). cut_of d f.sailing.0 f.columns) e
      ∙ ap (λ (s : ℕ). cut_of g.cut.0 s f.columns) k
      ∙ ap (λ (n : ℕ). cut_of g.cut.0 g.sailing.0 n) l
  one_depth (Ok f) (Err fault) a b m n o p = absurd (b f.cut.0 a.cut.holds)
  one_depth (Err fault) (Ok g) a b m n o p = absurd (a g.cut.0 b.cut.holds)
  one_depth (Err fault) (Err fault') a b m n o p = sym ((reason_exactly fault).1 o) ∙ (reason_exactly fault').1 p

  pub no_other : (r : Result DepthFigures DepthFault) → AsDefined q r → Counted q r → Reasoned q r → r ≡ work_depth q
  no_other r a n o = one_depth r (work_depth q) a (work_as_defined q) n (work_counted q) o work_reasoned

  -- "no depth" exactly when no cut meets the definition, and which of the three by the reason
  three : (fault : DepthFault) → NoDepthNumber (depth_fault_number fault)
  three NoSquatEntry = inl refl
  three SiltOver = inr (inl refl)
  three CutOver = inr (inr refl)

  none_of_three : ¬ NoDepthNumber 0
  none_of_three (inl e) = omega arith
  none_of_three (inr (inl e)) = omega arith
  none_of_three (inr (inr e)) = omega arith

  no_depth_when : (r : Result DepthFigures DepthFault) → AsDefined q r → NoDepthNumber (depth_number r) ↔ ((d : ℕ) → ¬ Meets q d)
  no_depth_when (Ok f) a = ((λ t. absurd (none_of_three t)), (λ none. absurd (none f.cut.0 a.cut.holds)))
  no_depth_when (Err fault) a = ((λ t. a), (λ none. three fault))

  pub no_depth_exactly : NoDepthNumber (depth_number (work_depth q)) ↔ ((d : ℕ) → ¬ Meets q d)
  no_depth_exactly = no_depth_when (work_depth q) (work_as_defined q)

  one_number : (f g : DepthFault) → depth_fault_number f ≡ depth_fault_number g → f ≡ g
  one_number NoSquatEntry NoSquatEntry e = refl
  one_number NoSquatEntry SiltOver e = absurd (omega arith)
  one_number NoSquatEntry CutOver e = absurd (omega arith)
  one_number SiltOver NoSquatEntry e = absurd (omega arith)
  one_number SiltOver SiltOver e = refl
  one_number SiltOver CutOver e = absurd (omega arith)
  one_number CutOver NoSquatEntry e = absurd (omega arith)
  one_number CutOver SiltOver e = absurd (omega arith)
  one_number CutOver CutOver e = refl

  numbered : (fault : DepthFault) (r : Result DepthFigures DepthFault) → depth_number r ≡ depth_fault_number fault → r ≡ Err fault
  numbered NoSquatEntry (Ok f) e = absurd (omega arith)
  numbered SiltOver (Ok f) e = absurd (omega arith)
  numbered CutOver (Ok f) e = absurd (omega arith)
  numbered fault (Err other) e = ap Err (one_number other fault e)

  pub number_exactly : (fault : DepthFault) → (depth_number (work_depth q) ≡ depth_fault_number fault) ↔ FirstUnusable q fault
  number_exactly fault = (
    (λ e. (reason_exactly fault).0 (numbered fault (work_depth q) e)),
    (λ u. ap depth_number ((reason_exactly fault).1 u)),
  )

  pub no_meeting : (fault : DepthFault) → FirstUnusable q fault → (d : ℕ) → ¬ Meets q d
  no_meeting fault u = subst (AsDefined q) ((reason_exactly fault).1 u) (work_as_defined q)

  -- the worksheet's last try shows it
  pub last_shows : (fault : DepthFault) → work_depth q ≡ Err fault → finding_of (last_try (tries q)) ≡ Err fault
  last_shows fault e = last_found fault ((reason_exactly fault).0 e)
