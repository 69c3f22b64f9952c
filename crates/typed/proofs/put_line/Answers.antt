-- `typed::put_line` meets its contract: where 80 bytes fit, and where they do not.
use Rattle.lines.proofs.putting.Fitting.{room, unfit, fitting}
use Rattle.typed.specs.Lines.{line_bytes, line_text}
use Rattle.typed.proofs.put_line.Goals as goal

pub returns : goal.returns
unfolding line_text
returns c =
    fitting line_bytes _ _ _ c.fits.ensures c.if-not-fits.false (rw c.row_at.ensures at c.put_row.ensures.0)

pub returns-then-not-fits : goal.returns-then-not-fits
returns-then-not-fits c = unfit line_bytes _ _ _ c.fits.ensures c.if-not-fits.true

pub put_row-requires : goal.put_row-requires
put_row-requires c = room line_bytes _ _ c.fits.ensures c.if-not-fits.false
