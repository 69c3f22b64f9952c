-- `sheet::fields::first_bad` meets its contract: none of the fields that were passed is bad.
use mathlib.Core.Path.{ap, ◌∙◌}
use native.Mathlib.Omega.{arith}
use borrow.Author.Rules.{rules}
use Rattle.sheet.specs.Fields.{outside_at, bad_at, named}
use Rattle.sheet.proofs.fields.BadRuns.{Passed, passed_none, passed_run, passed_run_bad}
use Rattle.sheet.proofs.fields.first_bad.Goals.{In_default, In_default-first_where, In_default-first_where-2}
use Rattle.sheet.proofs.fields.first_bad.Goals as goal

-- where a test has let pass, nothing up to there is bad
passed_9 : (c : In_default) → Passed c.args.figures 9
passed_9 c =
    let run = c.first_where.ensures (outside_at c.args.figures) (λ i b l h. search rules) in
    passed_run _ 0 9 _ (omega arith) (omega arith) (passed_none _) run c.in_default.is

passed_17 : (c : In_default-first_where) → Passed c.args.figures 17
passed_17 c =
    let run = c.first_where-2.ensures (outside_at c.args.figures) (λ i b l h. search rules) in
    passed_run _ 9 17 _ (omega arith) (omega arith) (passed_9 c.before.before.before) run c.in_default-first_where.is

passed_25 : (c : In_default-first_where-2) → Passed c.args.figures 25
passed_25 c =
    let run = c.first_where-3.ensures (outside_at c.args.figures) (λ i b l h. search rules) in
    passed_run _ 17 25 _ (omega arith) (omega arith) (passed_17 c.before.before.before) run c.in_default-first_where-2.is

pub returns-in-Some : goal.returns-in-Some
returns-in-Some c =
    let run = c.first_where.ensures (outside_at c.args.figures) (λ i b l h. search rules) in
    passed_run_bad _ 0 9 _ (omega arith) (omega arith) (passed_none _) run _ c.in-Some.is

pub returns-in-Some-first_where : goal.returns-in-Some-first_where
returns-in-Some-first_where c =
    let run = c.first_where-2.ensures (outside_at c.args.figures) (λ i b l h. search rules) in
    let passed = passed_9 (goal.at.returns-in-Some-first_where c).In_default in
    passed_run_bad _ 9 17 _ (omega arith) (omega arith) passed run _ c.in-Some-first_where.is

pub returns-in-Some-first_where-2 : goal.returns-in-Some-first_where-2
returns-in-Some-first_where-2 c =
    let run = c.first_where-3.ensures (outside_at c.args.figures) (λ i b l h. search rules) in
    let passed = passed_17 (goal.at.returns-in-Some-first_where-2 c).In_default-first_where in
    passed_run_bad _ 17 25 _ (omega arith) (omega arith) passed run _ c.in-Some-first_where-2.is

pub returns : goal.returns
returns c =
    let run = c.first_where-4.ensures (bad_at c.args.figures) (λ i b l h. search rules) in
    run ∙ ap named (passed_25 (goal.at.returns c).In_default-first_where-2).same
