-- The route after sheets: how many there are, how many have code 0, the smallest class of those, and on how many the engines agreed. By the list of sheets.
use Rattle.std.specs.Prelude.{Result, Ok, Err}
use mathlib.Core.Path.{◌≡◌, refl, sym, ap, ap₂, ◌∙◌}
use mathlib.Core.Bool.{Bool, true, false}
use mathlib.Core.List.{List, [], ◌∷◌, flatten, foldl, foldl-append}
use Prim.Native.Nat.{ℕ, ◌+◌, ◌≤◌, min}
use native.Mathlib.Omega.{arith}
use borrow.Author.Tests.{ne_eqb}
use lib.ListN.{length}
use Rattle.laws.specs.Choice.{ifᵇ◌then◌else◌, ◌=ᵇ◌}
use Rattle.laws.proofs.Never.{never}
use Rattle.class.specs.Classes.{with_ship}
use Rattle.record.specs.Counting.{greatest}
use Rattle.both.specs.Both.{came_to, both_of}
use Rattle.both.proofs.Promises.{verdict_exactly}
use Rattle.both.specs.declared.Verdict.{Verdict}
use Rattle.both.specs.declared.Verdict.TheVariants.{NotCome, Agreed, Differed}
use Rattle.design.specs.Design.{design_at}
use Rattle.design.specs.Numbers.{code_of}
use Rattle.design.proofs.Promises.{zero_when_answered}
use Rattle.lines.specs.declared.Form.TheVariants.{Both}
use Rattle.channel.specs.Route.{with_sheet, ships_of}
use Rattle.channel.specs.Text.{route_after, ships_of_all, how_many_answered, how_many_came, with_verdict, agreed_after, one_if_agreed, how_many_agreed}
use Rattle.channel.specs.declared.route.Route.{Route}
use Rattle.design.specs.declared.Reason.{Reason}
use Rattle.datum.specs.declared.Level.{Level}
use Rattle.design.specs.declared.Figures.{Figures}
use Rattle.gauge.specs.declared.LevelFault.{LevelFault}

-- one sheet
one_sheet : (route : Route) (answer : Result Figures Reason) → (with_sheet route answer).sheets ≡ min greatest (route.sheets + 1)
one_sheet route (Ok f) = refl
one_sheet route (Err r) = refl

one_answered : (route : Route) (answer : Result Figures Reason) → route.answered ≤ greatest
    → (with_sheet route answer).answered ≡ min greatest (route.answered + (ifᵇ code_of answer =ᵇ 0 then 1 else 0))
one_answered route (Ok f) h = refl
one_answered route (Err r) h = rw (ne_eqb (code_of (Err r)) 0 (λ e. never (let same = ((zero_when_answered (Err r)).0 e).1 in cc))) (omega arith)

one_class : (route : Route) (answer : Result Figures Reason) → (with_sheet route answer).class ≡ foldl with_ship route.class (ships_of answer)
one_class route (Ok f) = refl
one_class route (Err r) = refl

one_agreed : (agreed : ℕ) (verdict : Verdict) → agreed ≤ greatest → with_verdict agreed verdict ≡ min greatest (agreed + one_if_agreed verdict)
one_agreed agreed Agreed h = refl
one_agreed agreed NotCome h = omega arith
one_agreed agreed Differed h = omega arith

one_came : (came : Bool) → one_if_agreed (ifᵇ came then Agreed else NotCome) ≡ (ifᵇ came then 1 else 0)
one_came true = refl
one_came false = refl

module _ (level : Result Level LevelFault) where
  pub sheets_counted : (sheets : List (List ℕ)) (route : Route) → route.sheets ≤ greatest → (route_after level route sheets).sheets ≡ min greatest (route.sheets + length sheets)
  unfolding route_after
  sheets_counted [] route h = omega arith
  sheets_counted (sheet ∷ sheets) route h =
      let answer = design_at sheet level in
      sheets_counted sheets (with_sheet route answer) (omega (arith, one_sheet route answer)) ∙ omega (arith, one_sheet route answer)

  pub answered_counted : (sheets : List (List ℕ)) (route : Route) → route.answered ≤ greatest
      → (route_after level route sheets).answered ≡ min greatest (route.answered + how_many_answered level sheets)
  unfolding route_after how_many_answered
  answered_counted [] route h = omega arith
  answered_counted (sheet ∷ sheets) route h =
      let answer = design_at sheet level in
      answered_counted sheets (with_sheet route answer) (omega (arith, one_answered route answer h)) ∙ omega (arith, one_answered route answer h)

  pub agreed_counted : (sheets : List (List ℕ)) (agreed : ℕ) → agreed ≤ greatest → agreed_after Both level agreed sheets ≡ min greatest (agreed + how_many_agreed level sheets)
  unfolding agreed_after how_many_agreed
  agreed_counted [] agreed h = omega arith
  agreed_counted (sheet ∷ sheets) agreed h =
      let verdict = (both_of sheet level).verdict in
      agreed_counted sheets (with_verdict agreed verdict) (omega (arith, one_agreed agreed verdict h)) ∙ omega (arith, one_agreed agreed verdict h)

  pub all_agreed : (sheets : List (List ℕ)) → how_many_agreed level sheets ≡ how_many_came level sheets
  unfolding how_many_agreed how_many_came
  all_agreed [] = refl
  all_agreed (sheet ∷ sheets) = ap₂ ◌+◌ (ap one_if_agreed (verdict_exactly sheet level) ∙ one_came (came_to (design_at sheet level))) (all_agreed sheets)

  pub smallest_class : (sheets : List (List ℕ)) (route : Route) → (route_after level route sheets).class ≡ foldl with_ship route.class (ships_of_all level sheets)
  unfolding route_after flatten
  smallest_class [] route = refl
  smallest_class (sheet ∷ sheets) route =
      let answer = design_at sheet level in
      smallest_class sheets (with_sheet route answer)
      ∙ ap (λ (class : ℕ). foldl with_ship class (ships_of_all level sheets)) (one_class route answer)
      ∙ sym (foldl-append with_ship route.class (ships_of answer) (ships_of_all level sheets))
