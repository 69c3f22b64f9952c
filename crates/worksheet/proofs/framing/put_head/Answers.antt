-- `worksheet::framing::put_head` meets its contract: the title, the name and an empty line, one behind another.
use native.Mathlib.Omega.{arith}
use Rattle.lines.proofs.putting.Placing.{put_on}
use Rattle.worksheet.specs.Framing.{head_text}
use Rattle.worksheet.proofs.framing.put_head.Goals as goal

pub returns : goal.returns
unfolding head_text
returns c =
    let title = c.put-title.ensures.0 in
    (put_on (put_on title c.put_name-named.ensures.0 (omega arith)) (c.put.ensures.put (omega arith)) (omega arith), omega arith)
