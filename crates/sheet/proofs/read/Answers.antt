-- `sheet::read` meets its contract: each way out is a case of `read_of`.
use mathlib.Core.Path.{ap, ◌∙◌}
use Rattle.sheet.specs.Sheets.{sheet_from}
use Rattle.sheet.proofs.sheets.Answers.{read_length, read_spare, read_from, figures_in_lem}
use Rattle.sheet.proofs.read.Goals as goal

pub returns-then-bytes-ne28 : goal.returns-then-bytes-ne28
returns-then-bytes-ne28 c = read_length _ c.if-bytes-ne28.true

pub returns-then-parts-ne0 : goal.returns-then-parts-ne0
returns-then-parts-ne0 c = read_spare _ _ c.if-bytes-ne28.false c.split-parts.ensures.1 c.if-parts-ne0.true

pub returns : goal.returns
returns c =
    c.sheet_from.ensures
    ∙ ap sheet_from c.split-parts.ensures.0
    ∙ figures_in_lem _
    ∙ read_from _ _ c.if-bytes-ne28.false c.split-parts.ensures.1 c.if-parts-ne0.false
