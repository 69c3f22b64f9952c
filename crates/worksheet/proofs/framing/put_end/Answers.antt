-- `worksheet::framing::put_end` meets its contract: the line to sign, the bytes and a form feed, one behind another.
use native.Mathlib.Omega.{arith}
use lib.ListN.{length-take}
use Rattle.lines.proofs.putting.Placing.{put_on}
use Rattle.worksheet.specs.Framing.{end_text}
use Rattle.worksheet.proofs.framing.put_end.Goals as goal

pub returns : goal.returns
unfolding end_text
returns c =
    let sized = length-take c.min-shown.result c.args.bytes.now in
    let digits = rw c.min-shown.ensures at c.put_hex-last.ensures.0 in
    (put_on (put_on (put_on c.put_signature-line.ensures.0 (c.put-hex.ensures.put (omega arith)) (omega arith)) digits (omega arith)) (c.put.ensures.put (omega arith)) (omega arith), omega arith)
