-- `worksheet::refusals::put_bad_field` meets its contract: the number, the range and the note, one behind another.
use native.Mathlib.Omega.{arith}
use Rattle.lines.proofs.putting.Placing.{put_on}
use Rattle.worksheet.specs.Refusals.{bad_field}
use Rattle.worksheet.proofs.refusals.put_bad_field.Goals as goal

pub returns : goal.returns
unfolding bad_field
returns c =
    let head = rw c.from.ensures at c.put-head.ensures.0 in
    (put_on (put_on head c.put_may_hold-range.ensures.0 (omega arith)) c.put_field_note.ensures.0 (omega arith), omega arith)
