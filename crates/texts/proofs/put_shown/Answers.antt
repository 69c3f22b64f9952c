-- `texts::put_shown` meets its contract: where 4,096 bytes fit, and where they do not.
use Rattle.lines.proofs.putting.Fitting.{room, unfit, fitting}
use Rattle.texts.specs.Shown.{shown_bytes}
use Rattle.texts.proofs.put_shown.Goals as goal

pub returns : goal.returns
returns c =
    fitting shown_bytes _ _ _ c.fits.ensures c.if-not-fits.false c.put_sheet.ensures

pub returns-then-not-fits : goal.returns-then-not-fits
returns-then-not-fits c = unfit shown_bytes _ _ _ c.fits.ensures c.if-not-fits.true

pub put_sheet-requires : goal.put_sheet-requires
put_sheet-requires c = room shown_bytes _ _ c.fits.ensures c.if-not-fits.false
