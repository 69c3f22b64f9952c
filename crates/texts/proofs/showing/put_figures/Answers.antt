-- `texts::showing::put_figures` meets its contract: figures that make a sheet are written, and others put nothing.
use mathlib.Core.Path.{sym, ◌∙◌}
use borrow.Author.Rules.{rules}
use Rattle.texts.proofs.showing.Sheets.{nothing_put, sheet_put}
use Rattle.texts.proofs.showing.put_figures.Goals as goal

pub returns-in-Ok : goal.returns-in-Ok
returns-in-Ok c =
    rw c.write.ensures.1 (sheet_put c.args.figures c.args.buffer.now c.args.at _ (search rules) c.requires (sym c.sheet_from-made.ensures ∙ c.in-Ok.is))

pub returns-in-Err : goal.returns-in-Err
returns-in-Err c =
    nothing_put c.args.figures c.args.buffer.now c.args.at _ (sym c.sheet_from-made.ensures ∙ c.in-Err.is)
