-- The bytes stand in a place of 28 zeros.
use Rattle.channel.specs.Worksheets.{bytes_for}
use Rattle.channel.proofs.worksheets.bytes_for.Goals as goal

pub returns : goal.returns
unfolding bytes_for
returns c = c.put_sheet.ensures.1
