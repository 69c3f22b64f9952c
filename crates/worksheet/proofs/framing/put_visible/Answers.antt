-- `worksheet::framing::put_visible` meets its contract: the bytes fit.
use mathlib.Core.List.{map}
use native.Mathlib.Omega.{arith}
use lib.ListN.{length, length-map}
use Rattle.texts.specs.Messages.{shown}
use Rattle.lines.proofs.putting.Fitting.{put_within}
use Rattle.worksheet.proofs.framing.put_visible.Goals as goal

pub returns : goal.returns
returns c =
    let a = c.args in
    let p = put_within (length a.bytes.now) (map shown a.bytes.now) a.at a.buffer.now c.requires c.put_visible.ensures in
    (p, omega (arith, p.after, length-map a.bytes.now shown))
