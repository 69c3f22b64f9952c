-- `texts::put_visible` meets its contract: where its bytes fit, and where they do not.
use lib.ListN.{length}
use Rattle.lines.proofs.putting.Fitting.{room, unfit, fitting}
use Rattle.texts.proofs.put_visible.Goals as goal

pub returns : goal.returns
returns c = fitting (length c.args.bytes.now) _ _ _ c.fits.ensures c.if-not-fits.false c.put_seen.ensures.0

pub returns-then-not-fits : goal.returns-then-not-fits
returns-then-not-fits c = unfit _ _ _ _ c.fits.ensures c.if-not-fits.true

pub put_seen-requires : goal.put_seen-requires
put_seen-requires c = room _ _ _ c.fits.ensures c.if-not-fits.false
