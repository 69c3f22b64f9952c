-- `typed::put_blank` meets its contract: where 80 bytes fit, and where they do not.
use Rattle.lines.proofs.putting.Fitting.{room, unfit, fitting}
use Rattle.typed.specs.Lines.{line_bytes, blank_text}
use Rattle.typed.proofs.put_blank.Goals as goal

pub returns : goal.returns
unfolding blank_text
returns c =
    fitting line_bytes _ _ _ c.fits.ensures c.if-not-fits.false (rw c.row_at.ensures at c.put_blank_row.ensures)

pub returns-then-not-fits : goal.returns-then-not-fits
returns-then-not-fits c = unfit line_bytes _ _ _ c.fits.ensures c.if-not-fits.true

pub put_blank_row-requires : goal.put_blank_row-requires
put_blank_row-requires c = room line_bytes _ _ c.fits.ensures c.if-not-fits.false
