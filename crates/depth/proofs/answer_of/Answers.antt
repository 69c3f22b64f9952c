-- `depth::answer_of` meets its contract: an arm for each finding; a try that stays is at most 3,000, so its depths fit.
use Rattle.std.specs.Prelude.{Ok}
use mathlib.Core.Path.{◌≡◌, sym, ap, ◌∙◌}
use native.Mathlib.Omega.{arith}
use borrow.Author.Rules.{rules}
use Rattle.depth.specs.Worksheet.{finding_of, answer_of}
use Rattle.depth.specs.declared.Finding.TheVariants.{Stays}
use Rattle.depth.proofs.walks.Findings.{stays_within}
use Rattle.depth.proofs.answer_of.Goals as goal

pub overflow_cast-result : goal.overflow_cast-result
overflow_cast-result c =
    let is : finding_of c.args.last ≡ Ok Stays = sym c.finding_of.ensures ∙ c.in_ok-finding_of.was ∙ ap Ok c.in-Stays.is in
    omega (arith, (stays_within c.args.last is).to)

pub overflow_cast-result-in-Stays : goal.overflow_cast-result-in-Stays
overflow_cast-result-in-Stays c =
    let is : finding_of c.args.last ≡ Ok Stays = sym c.finding_of.ensures ∙ c.in_ok-finding_of.was ∙ ap Ok c.in-Stays.is in
    omega (arith, (stays_within c.args.last is).to)

pub returns-in-Stays : goal.returns-in-Stays
unfolding answer_of
returns-in-Stays c = rw (← c.finding_of.ensures, c.in_ok-finding_of.was, c.in-Stays.is)

pub returns-in-Moves : goal.returns-in-Moves
unfolding answer_of
returns-in-Moves c = rw (← c.finding_of.ensures, c.in_ok-finding_of.was, c.in-Moves.is)

pub returns-in_err-finding_of : goal.returns-in_err-finding_of
unfolding answer_of
returns-in_err-finding_of c = rw (← c.finding_of.ensures, c.in_err-finding_of.was) (search rules)
