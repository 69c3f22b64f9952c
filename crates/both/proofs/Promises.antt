-- What the two engines beside each other promise (section 16.2).
use Rattle.std.specs.Prelude.{Result, Ok, Err}
use mathlib.Core.Path.{◌≡◌, ap}
use mathlib.Core.Bool.{true, false}
use mathlib.Core.List.{List, [], ◌∷◌}
use mathlib.Core.Logic.{◌↔◌, ◌≢◌}
use Prim.Native.Nat.{ℕ}
use Rattle.laws.specs.Choice.{ifᵇ◌then◌else◌}
use Rattle.laws.specs.Extremes.{Least}
use Rattle.laws.proofs.Unique.{one_answer}
use Rattle.depth.specs.Depth.{sailing, own_column, Meets, depth_fault_number}
use Rattle.depth.specs.Worksheet.{work_depth}
use Rattle.depth.specs.declared.Stretch.{Stretch}
use Rattle.depth.specs.declared.DepthFault.{DepthFault}
use Rattle.engine.specs.Plain.{plain_depth}
use Rattle.engine.specs.Numbers.{plain_numbers}
use Rattle.speed.specs.declared.SpeedFault.{SpeedFault}
use Rattle.design.specs.Design.{design_at}
use Rattle.design.specs.Numbers.{code_of}
use Rattle.design.specs.declared.Figures.{Figures}
use Rattle.design.specs.declared.Reason.TheVariants.{NoDepth, NoSpeed}
use Rattle.both.specs.declared.Both.{Both}
use Rattle.both.specs.declared.Verdict.TheVariants.{NotCome, Agreed, Differed}
use Rattle.both.specs.Both.{came_to, uncounted, not_come, both_of, DepthReached, DesignedAt, stretch_in}
use Rattle.both.proofs.Engines as engines
use Rattle.both.proofs.Agreeing as agreeing
use Rattle.both.proofs.Codes.{came_exactly}
use Rattle.engine.specs.declared.PlainFigures.{PlainFigures}
use Rattle.design.specs.declared.Reason.{Reason}
use Rattle.gauge.specs.declared.LevelFault.{LevelFault}
use Rattle.depth.specs.declared.DepthFigures.{DepthFigures}
use Rattle.datum.specs.declared.Level.{Level}

-- The two engines: whatever `work_depth` of `depth` and `plain_depth` of `engine` answer for one stretch has the same cut, sailing depth and refusal.
pub engines_agree : (q : Stretch) (worked : Result DepthFigures DepthFault) (plain : Result PlainFigures DepthFault) → worked ≡ work_depth q → plain ≡ plain_depth q → uncounted worked ≡ plain
engines_agree = engines.engines_agree

-- A sheet came to its depth exactly when its code is 0 or 13 to 17.
pub depth_reached_exactly : (a : Result Figures Reason) → (came_to a ≡ true) ↔ DepthReached (code_of a)
depth_reached_exactly = came_exactly

module _ (bytes : List ℕ) (read : Result Level LevelFault) where
  -- The answer is the sheet's, as ever.
  pub same_answer : (both_of bytes read).answer ≡ design_at bytes read
  same_answer = agreeing.answer_is bytes read

  -- Where the sheet came to its depth, the two engines agree; where it did not, there is nothing to compare. They never differ.
  pub verdict_exactly : (both_of bytes read).verdict ≡ (ifᵇ came_to (design_at bytes read) then Agreed else NotCome)
  verdict_exactly = agreeing.verdict_when bytes read

  pub never_differ : (both_of bytes read).verdict ≢ Differed
  never_differ = agreeing.not_differed bytes read

  -- A sheet that is refused before its depth has zeros.
  pub zeros_before : came_to (design_at bytes read) ≡ false → (both_of bytes read).plain ≡ 0 ∷ 0 ∷ 0 ∷ []
  zeros_before e = ap (λ (b : Both). b.plain) (agreeing.nothing_beside bytes read e)

  -- One that came to its depth has the plain engine's numbers of the stretch that it is designed for.
  pub plain_numbers_of : came_to (design_at bytes read) ≡ true → (at : DesignedAt bytes read) × ((both_of bytes read).plain ≡ plain_numbers (plain_depth (stretch_in at)))
  plain_numbers_of came = (agreeing.come bytes read came, agreeing.plain_is bytes read came)

  -- An answered sheet has its own s and cut behind a 0; one without a depth its number and zeros; one that is refused for its speed the least cut that meets the
  -- definition, which its line does not show.
  pub beside_answered : (f : Figures) → design_at bytes read ≡ Ok f → (both_of bytes read).plain ≡ 0 ∷ f.sailing.0 ∷ f.cut.0 ∷ []
  beside_answered = agreeing.answered_plain bytes read

  pub beside_no_depth : (fault : DepthFault) → design_at bytes read ≡ Err (NoDepth fault) → (both_of bytes read).plain ≡ depth_fault_number fault ∷ 0 ∷ 0 ∷ []
  beside_no_depth = agreeing.no_depth_plain bytes read

  pub beside_no_speed : (fault : SpeedFault) → design_at bytes read ≡ Err (NoSpeed fault)
      → (at : DesignedAt bytes read) × ((s d : ℕ) × ((both_of bytes read).plain ≡ 0 ∷ s ∷ d ∷ []) × Least (Meets (stretch_in at)) d
      × (s ≡ sailing (stretch_in at) (own_column (stretch_in at) d)))
  beside_no_speed = agreeing.no_speed_plain bytes read

  -- Each call has one result.
  pub one_both : (r s : Both) → r ≡ both_of bytes read → s ≡ both_of bytes read → r ≡ s
  one_both = one_answer

pub not_come_unique : (answer : Result Figures Reason) (r s : Both) → r ≡ not_come answer → s ≡ not_come answer → r ≡ s
not_come_unique answer = one_answer
