-- `worksheet::put_page` meets its contract: where a page fits, and where it does not.
use Rattle.lines.proofs.putting.Fitting.{room, unfit, fitting}
use Rattle.worksheet.specs.Framing.{page_bytes}
use Rattle.worksheet.proofs.put_page.Goals as goal

pub returns : goal.returns
returns c = fitting page_bytes _ _ _ c.fits.ensures c.if-not-fits.false c.put_whole.ensures

pub returns-then-not-fits : goal.returns-then-not-fits
returns-then-not-fits c = unfit page_bytes _ _ _ c.fits.ensures c.if-not-fits.true

pub put_whole-requires : goal.put_whole-requires
put_whole-requires c = room page_bytes _ _ c.fits.ensures c.if-not-fits.false
