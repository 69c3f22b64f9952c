-- `texts::put_message` meets its contract: where 1,024 bytes fit, and where they do not.
use Rattle.lines.proofs.putting.Fitting.{room, unfit, fitting}
use Rattle.texts.specs.Messages.{message_bytes}
use Rattle.texts.proofs.put_message.Goals as goal

pub returns : goal.returns
returns c =
    fitting message_bytes _ _ _ c.fits.ensures c.if-not-fits.false c.put_whole.ensures

pub returns-then-not-fits : goal.returns-then-not-fits
returns-then-not-fits c = unfit message_bytes _ _ _ c.fits.ensures c.if-not-fits.true

pub put_whole-requires : goal.put_whole-requires
put_whole-requires c = room message_bytes _ _ c.fits.ensures c.if-not-fits.false
