-- `texts::messages::put_whole` meets its contract: the parts of the message, one behind another.
use native.Mathlib.Omega.{arith}
use Rattle.lines.proofs.putting.Placing.{put_on}
use Rattle.texts.specs.Messages.{message_text}
use Rattle.texts.proofs.messages.put_whole.Goals as goal

pub returns : goal.returns
unfolding message_text
returns c =
    let enough = c.requires in
    let number = c.put-number.ensures.bound (omega arith) in
    let front = put_on (put_on (put_on (c.put-number.ensures.put (omega arith)) (c.put_count-reason.ensures.put (omega arith)) (omega arith)) c.put_reason-stood.ensures.0 (omega arith)) c.put_stood-then.ensures.0 (omega arith) in
    put_on (put_on (put_on front (c.put-expected.ensures.put (omega arith)) (omega arith)) c.put_expected-end.ensures.0 (omega arith)) (c.put.ensures.put (omega arith)) (omega arith)
