-- `depth::fill_worksheet` meets its contract: a way out for one, two and three tries.
use mathlib.Core.Path.{sym, ◌∙◌}
use Rattle.depth.proofs.walks.Filled.{filled_one, filled_two, filled_three}
use Rattle.depth.proofs.fill_worksheet.Goals as goal

pub returns-then-not-moves_on : goal.returns-then-not-moves_on
returns-then-not-moves_on c =
    (filled_one c.args.stretch _ c.try_column-first.ensures (sym c.moves_on.ensures ∙ c.if-not-moves_on.true))

pub returns-then-not-moves_on-2 : goal.returns-then-not-moves_on-2
returns-then-not-moves_on-2 c =
    (filled_two c.args.stretch _ c.try_column-first.ensures
    (sym c.moves_on.ensures ∙ c.if-not-moves_on.false) _
    c.try_column-second.ensures (sym c.moves_on-2.ensures ∙ c.if-not-moves_on-2.true))

pub returns : goal.returns
returns c =
    filled_three c.args.stretch _ c.try_column-first.ensures
    (sym c.moves_on.ensures ∙ c.if-not-moves_on.false) _
    c.try_column-second.ensures
    (sym c.moves_on-2.ensures ∙ c.if-not-moves_on-2.false) _ c.try_column-third.ensures
