-- `sheet::write` meets its contract: each way out is a case of `written_of` and of `place_of`.
use mathlib.Core.Path.{◌≡◌}
use Rattle.sheet.specs.Fields.{first_bad}
use Rattle.sheet.proofs.fields.Runs.{named_none}
use Rattle.sheet.proofs.sheets.Answers.{write_small, write_bad, write_done}
use Rattle.sheet.proofs.sheets.Valid.{fine_narrow, figures_spare}
use Rattle.sheet.proofs.write.Goals as goal

pub returns-in-Some : goal.returns-in-Some
returns-in-Some c =
    write_bad _ _ _ c.if-place-lt28.false c.figures_of-figures.ensures _ c.first_bad.ensures _ c.in-Some.is

pub join-requires : goal.join-requires
join-requires c =
    let figures = c.figures_of-figures in
    let none : first_bad figures.result ≡ 0 = named_none _ _ c.first_bad.ensures c.in_default.is in
    record { narrow = fine_narrow figures.result none (rw figures.ensures (figures_spare _)); in_bounds = c.if-place-lt28.false }

pub returns : goal.returns
returns c =
    write_done _ _ _ c.if-place-lt28.false c.figures_of-figures.ensures _ c.first_bad.ensures _ c.in_default.is c.join.ensures

pub returns-then-place-lt28 : goal.returns-then-place-lt28
returns-then-place-lt28 c = write_small _ _ c.if-place-lt28.true
