-- What stands beside an answer: nothing where the sheet was refused before its depth, else the plain engine's numbers, which are the worksheet's.
use Rattle.std.specs.Prelude.{Result, Ok, Err}
use mathlib.Core.Path.{◌≡◌, refl, sym, ap, ap₂, subst, ◌∙◌}
use mathlib.Core.Bool.{Bool, true, false}
use mathlib.Core.List.{List, [], ◌∷◌}
use mathlib.Core.Logic.{◌≢◌}
use Prim.Native.Nat.{ℕ}
use borrow.Author.Tests.{eq-eqb}
use Rattle.laws.specs.Choice.{ifᵇ◌then◌else◌}
use Rattle.laws.specs.Extremes.{Least}
use Rattle.laws.proofs.Never.{never}
use Rattle.datum.specs.declared.BelowLevel.{BelowLevel}
use Rattle.depth.specs.Depth.{sailing, own_column, Meets, depth_fault_number}
use Rattle.depth.specs.Worksheet.{work_depth}
use Rattle.depth.specs.declared.Stretch.{Stretch}
use Rattle.depth.specs.declared.DepthFault.{DepthFault}
use Rattle.depth.specs.declared.DepthFigures.{DepthFigures}
use Rattle.engine.specs.Plain.{plain_depth}
use Rattle.engine.specs.Meaning.{AsRead}
use Rattle.engine.specs.Numbers.{plain_numbers}
use Rattle.engine.proofs.Promises.{read_straight}
use Rattle.speed.specs.declared.SpeedFault.{SpeedFault}
use Rattle.design.specs.Design.{design_at}
use Rattle.design.specs.declared.Figures.{Figures}
use Rattle.design.specs.declared.Reason.TheVariants.{NoDepth, NoSpeed}
use Rattle.both.specs.declared.Both.{Both}
use Rattle.both.specs.declared.Verdict.TheVariants.{NotCome, Agreed, Differed}
use Rattle.both.specs.Both.{came_to, uncounted, same_numbers, verdict_of, not_come, of_stretch, by_reading, by_level, both_of, DesignedAt, stretch_in}
use Rattle.both.proofs.Engines.{engines_agree}
use Rattle.both.proofs.Steps.{refused_before, came_there}
use Rattle.both.proofs.Standing.{Stands, stands, reached}
use Rattle.design.specs.declared.Reason.{Reason}
use Rattle.datum.specs.declared.Level.{Level}
use Rattle.gauge.specs.declared.LevelFault.{LevelFault}

-- the same numbers agree
same_as_itself : (numbers : List ℕ) → same_numbers numbers numbers ≡ true
unfolding same_numbers
same_as_itself numbers = rw (eq-eqb _ _ refl, eq-eqb _ _ refl, eq-eqb _ _ refl)

agreed_with : (worked plain : List ℕ) → worked ≡ plain → verdict_of worked plain ≡ Agreed
unfolding verdict_of
agreed_with worked plain e = rw (e, same_as_itself plain)

module _ (q : Stretch) where
  -- the worksheet's numbers are the plain engine's
  pub same_depths : plain_numbers (plain_depth q) ≡ plain_numbers (uncounted (work_depth q))
  same_depths = sym (ap plain_numbers (engines_agree q (work_depth q) (plain_depth q) refl refl))

  stretch_answer : (answer : Result Figures Reason) → (of_stretch answer q).answer ≡ answer
  unfolding of_stretch
  stretch_answer answer = refl

  stretch_plain : (answer : Result Figures Reason) → (of_stretch answer q).plain ≡ plain_numbers (plain_depth q)
  unfolding of_stretch
  stretch_plain answer = refl

  stretch_agreed : (answer : Result Figures Reason) → (of_stretch answer q).verdict ≡ Agreed
  unfolding of_stretch
  stretch_agreed answer = agreed_with _ _ (sym same_depths)

module _ (bytes : List ℕ) (read : Result Level LevelFault) where
  -- what stands beside a design that was refused before its depth
  pub nothing_beside : came_to (design_at bytes read) ≡ false → both_of bytes read ≡ not_come (design_at bytes read)
  unfolding both_of
  nothing_beside e = sym (refused_before bytes read (design_at bytes read) e)

  -- and beside one that was not
  pub stretch_beside : (at : DesignedAt bytes read) → came_to (design_at bytes read) ≡ true → both_of bytes read ≡ of_stretch (design_at bytes read) (stretch_in at)
  unfolding both_of
  stretch_beside at e =
      sym (came_there bytes read (design_at bytes read) e)
      ∙ ap (λ (r : _). by_reading (design_at bytes read) r read) at.was_read
      ∙ ap (by_level (design_at bytes read) at.sheet) at.had

  -- the answer is kept, whichever way
  pub answer_is : (both_of bytes read).answer ≡ design_at bytes read
  answer_is = go (came_to (design_at bytes read)) refl
    where
      go : (b : Bool) → came_to (design_at bytes read) ≡ b → (both_of bytes read).answer ≡ design_at bytes read
      go true e = ap (λ (b : Both). b.answer) (stretch_beside (reached bytes read e).at e) ∙ stretch_answer (stretch_in (reached bytes read e).at) (design_at bytes read)
      go false e = ap (λ (b : Both). b.answer) (nothing_beside e)

  abbrev design : Result Figures Reason
  design = design_at bytes read

  -- of a design that came to its depth
  module _ (came : came_to design ≡ true) where
    abbrev pub come : DesignedAt bytes read
    come = (reached bytes read came).at

    pub plain_is : (both_of bytes read).plain ≡ plain_numbers (plain_depth (stretch_in come))
    plain_is = ap (λ (b : Both). b.plain) (stretch_beside come came) ∙ stretch_plain (stretch_in come) design

    pub verdict_is : (both_of bytes read).verdict ≡ Agreed
    verdict_is = ap (λ (b : Both). b.verdict) (stretch_beside come came) ∙ stretch_agreed (stretch_in come) design

    -- what it has of the worksheet's depth
    pub design_stands : Stands design (work_depth (stretch_in come))
    design_stands =
        subst (λ (a : Result Figures Reason). Stands a (work_depth (stretch_in come))) (sym (reached bytes read came).designed) (stands come.sheet come.level)

    worked_is : (r : Result DepthFigures DepthFault) → work_depth (stretch_in come) ≡ r → (both_of bytes read).plain ≡ plain_numbers (uncounted r)
    worked_is r e = plain_is ∙ same_depths (stretch_in come) ∙ ap (λ (w : Result DepthFigures DepthFault). plain_numbers (uncounted w)) e

  pub verdict_when : (both_of bytes read).verdict ≡ (ifᵇ came_to design then Agreed else NotCome)
  verdict_when = go (came_to design) refl
    where
      go : (b : Bool) → came_to design ≡ b → (both_of bytes read).verdict ≡ (ifᵇ b then Agreed else NotCome)
      go true e = verdict_is e
      go false e = ap (λ (b : Both). b.verdict) (nothing_beside e)

  pub not_differed : (both_of bytes read).verdict ≢ Differed
  not_differed e = go (came_to design) refl
    where
      go : (b : Bool) → came_to design ≡ b → ⊥
      go true came = let f : Agreed ≡ Differed = sym (verdict_is came) ∙ e in never cc
      go false came = let f : NotCome ≡ Differed = sym (ap (λ (b : Both). b.verdict) (nothing_beside came)) ∙ e in never cc

  -- the numbers by the answer
  pub answered_plain : (f : Figures) → design ≡ Ok f → (both_of bytes read).plain ≡ 0 ∷ f.sailing.0 ∷ f.cut.0 ∷ []
  answered_plain f e =
      let came : came_to design ≡ true = ap came_to e in
      let has = subst (λ (a : Result Figures Reason). Stands a (work_depth (stretch_in (come came)))) e (design_stands came) in
      worked_is came (Ok has.0) has.1
      ∙ sym (ap₂ (λ (s c : BelowLevel). 0 ∷ s.0 ∷ c.0 ∷ []) has.3 has.2)

  pub no_depth_plain : (fault : DepthFault) → design ≡ Err (NoDepth fault) → (both_of bytes read).plain ≡ depth_fault_number fault ∷ 0 ∷ 0 ∷ []
  no_depth_plain fault e =
      let came : came_to design ≡ true = ap came_to e in
      worked_is came _ (subst (λ (a : Result Figures Reason). Stands a (work_depth (stretch_in (come came)))) e (design_stands came))

  -- one that is refused for its speed has a cut, which its line does not show
  pub no_speed_plain : (fault : SpeedFault) → design ≡ Err (NoSpeed fault)
      → (at : DesignedAt bytes read) × ((s d : ℕ) × ((both_of bytes read).plain ≡ 0 ∷ s ∷ d ∷ []) × Least (Meets (stretch_in at)) d × (s ≡ sailing (stretch_in at) (own_column (stretch_in at) d)))
  no_speed_plain fault e =
      let came : came_to design ≡ true = ap came_to e in
      let q = stretch_in (come came) in
      let has : (g : DepthFigures) × (work_depth q ≡ Ok g) = subst (λ (a : Result Figures Reason). Stands a (work_depth q)) e (design_stands came) in
      let read_so : AsRead q (uncounted (Ok has.0)) = subst (AsRead q) (sym (engines_agree q (Ok has.0) (plain_depth q) (sym has.1) refl)) (read_straight q) in
      (come came, (has.0.sailing.0, has.0.cut.0, worked_is came (Ok has.0) has.1, read_so.cut, read_so.sailing_depth))
