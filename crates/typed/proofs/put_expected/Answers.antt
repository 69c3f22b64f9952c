-- `typed::put_expected` meets its contract: where 512 bytes fit, and where they do not.
use Rattle.lines.proofs.putting.Fitting.{room, unfit, fitting}
use Rattle.typed.specs.Lines.{expected_bytes, expected_text}
use Rattle.typed.proofs.put_expected.Goals as goal

pub returns : goal.returns
unfolding expected_text
returns c =
    fitting expected_bytes _ _ _ c.fits.ensures c.if-not-fits.false
    (rw (c.row_at.ensures, c.values_of.ensures) at c.put_lines.ensures)

pub returns-then-not-fits : goal.returns-then-not-fits
returns-then-not-fits c = unfit expected_bytes _ _ _ c.fits.ensures c.if-not-fits.true

pub put_lines-requires : goal.put_lines-requires
put_lines-requires c = room expected_bytes _ _ c.fits.ensures c.if-not-fits.false
