-- `texts::messages::put_quoted` meets its contract: a quote, the bytes seen, a quote, and what tells that there are more.
use Prim.Native.Nat.{◌≤◌}
use native.Mathlib.Omega.{arith}
use borrow.Author.Tests.{le-leb, lt-leb}
use lib.ListN.{length, take, length-take}
use Rattle.lines.proofs.putting.Placing.{put_on}
use Rattle.texts.specs.Messages.{seen, quoted_text}
use Rattle.texts.proofs.messages.put_quoted.Goals as goal

pub returns-then-line-le-SEEN : goal.returns-then-line-le-SEEN
unfolding quoted_text
returns-then-line-le-SEEN c =
    let few : length (take c.min.result c.args.line.now) ≤ seen = omega (arith, length-take c.min.result c.args.line.now) in
    let quoted = put_on (put_on (c.put-first.ensures.put (omega arith)) (rw c.min.ensures at c.put_seen-last.ensures.0) (omega arith)) (c.put-end.ensures.put (omega arith)) (omega arith) in
    (rw (le-leb _ seen c.if-line-le-SEEN.true) quoted, omega arith)

pub returns : goal.returns
unfolding quoted_text
returns c =
    let few : length (take c.min.result c.args.line.now) ≤ seen = omega (arith, length-take c.min.result c.args.line.now) in
    let quoted = put_on (put_on (c.put-first.ensures.put (omega arith)) (rw c.min.ensures at c.put_seen-last.ensures.0) (omega arith)) (c.put-end.ensures.put (omega arith)) (omega arith) in
    (rw (lt-leb _ seen c.if-line-le-SEEN.false) (put_on quoted (c.put.ensures.put (omega arith)) (omega arith)), omega arith)
