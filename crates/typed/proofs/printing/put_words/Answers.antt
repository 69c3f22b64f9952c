-- `typed::printing::put_words` meets its contract. The loop's invariant: the lines of the words passed stand, each behind ` | `.
use mathlib.Core.Path.{refl}
use native.Mathlib.Omega.{arith}
use Rattle.typed.proofs.printing.Words.{none_worded, one_worded, space_worded, all_worded}
use Rattle.typed.proofs.printing.put_words.Goals as goal

pub loop-j-init : goal.loop-j-init
loop-j-init c = (refl, omega arith, none_worded c.args.row)

pub returns-then-row-j-eq-SPACE : goal.returns-then-row-j-eq-SPACE
returns-then-row-j-eq-SPACE c = space_worded c.loop-j.invariant.2 (omega arith) c.if-row-j-eq-SPACE.true

pub loop-j-preserved : goal.loop-j-preserved
loop-j-preserved c =
    let l = c.loop-j in (
      omega arith,
      omega arith,
      one_worded l.invariant.2 (omega arith) c.if-row-j-eq-SPACE.false (c.put-end.ensures.put (omega arith)) c.put_row-end.ensures.0 (omega arith) (omega arith),
    )

pub returns : goal.returns
returns c = all_worded c.loop-j.invariant.2 (omega arith)
