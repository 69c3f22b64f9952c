-- `texts::put_form` meets its contract: where 20,000 bytes fit, and where they do not.
use Rattle.lines.proofs.putting.Fitting.{room, unfit, fitting}
use Rattle.texts.specs.Shown.{form_bytes}
use Rattle.texts.proofs.put_form.Goals as goal

pub returns : goal.returns
returns c =
    fitting form_bytes _ _ _ c.fits.ensures c.if-not-fits.false c.put_form_rows.ensures

pub returns-then-not-fits : goal.returns-then-not-fits
returns-then-not-fits c = unfit form_bytes _ _ _ c.fits.ensures c.if-not-fits.true

pub put_form_rows-requires : goal.put_form_rows-requires
put_form_rows-requires c = room form_bytes _ _ c.fits.ensures c.if-not-fits.false
