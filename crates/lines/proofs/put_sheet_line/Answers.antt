-- `lines::put_sheet_line` meets its contract: where a line fits, and where none does.
use Rattle.lines.specs.Lines.{line_bytes}
use Rattle.lines.proofs.putting.Fitting.{unfit, fitting}
use Rattle.lines.proofs.put_sheet_line.Goals as goal

pub returns : goal.returns
returns c =
    fitting line_bytes _ _ _ c.line_fits.ensures c.if-not-line_fits.false c.put_index_line.ensures

pub returns-then-not-line_fits : goal.returns-then-not-line_fits
returns-then-not-line_fits c = unfit line_bytes _ _ _ c.line_fits.ensures c.if-not-line_fits.true
