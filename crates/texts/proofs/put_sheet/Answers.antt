-- `texts::put_sheet` meets its contract: where 28 bytes fit, and where they do not.
use Rattle.lines.proofs.putting.Fitting.{room, unfit, fitting}
use Rattle.texts.specs.Shown.{sheet_bytes}
use Rattle.texts.proofs.put_sheet.Goals as goal

pub returns : goal.returns
returns c =
    fitting sheet_bytes _ _ _ c.fits.ensures c.if-not-fits.false c.put_figures.ensures

pub returns-then-not-fits : goal.returns-then-not-fits
returns-then-not-fits c = unfit sheet_bytes _ _ _ c.fits.ensures c.if-not-fits.true

pub put_figures-requires : goal.put_figures-requires
put_figures-requires c = room sheet_bytes _ _ c.fits.ensures c.if-not-fits.false
