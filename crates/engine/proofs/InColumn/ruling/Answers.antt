-- `engine::InColumn::ruling` meets its contract: a way out for no entry, for a figure that was found and for one that was not.
use Rattle.std.specs.Prelude.{Ok, Err}
use Rattle.std.specs.Option.{ok_or}
use mathlib.Core.Path.{◌≡◌, sym, ◌∙◌}
use native.Mathlib.Omega.{arith}
use borrow.Author.Rules.{rules}
use Rattle.depth.specs.declared.DepthFault.TheVariants.{SiltOver}
use Rattle.engine.specs.Plain.{first_figure}
use Rattle.engine.proofs.Tests.{rules_entry, rules_figure, asked_found, asked_none}
use Rattle.engine.proofs.InColumn.ruling.Goals as goal

pub returns-then-squat-ge-NONE : goal.returns-then-squat-ge-NONE
returns-then-squat-ge-NONE c = let a = c.args.self in rules_entry a.stretch a.column (omega arith)

pub returns-in_err-figure : goal.returns-in_err-figure
returns-in_err-figure c =
    let a = c.args.self in
    let asked : ok_or (first_figure a.stretch a.column) SiltOver ≡ Err c.in_err-figure.field-0.0 =
    rw (← c.first_figure.ensures) (sym c.ok_or.ensures.value ∙ c.in_err-figure.was) in
    let given : c.from_residual.result ≡ Err c.in_err-figure.field-0.0 = search rules in
    given ∙ asked_none a.stretch.natural.0 _ _ asked ∙ rules_figure a.stretch a.column (omega arith)

pub returns : goal.returns
returns c =
    let a = c.args.self in
    let asked : ok_or (first_figure a.stretch a.column) SiltOver ≡ Ok c.in_ok-figure.figure =
    rw (← c.first_figure.ensures) (sym c.ok_or.ensures.value ∙ c.in_ok-figure.was) in
    c.by_figure.ensures ∙ asked_found a.stretch.natural.0 _ _ asked ∙ rules_figure a.stretch a.column (omega arith)
