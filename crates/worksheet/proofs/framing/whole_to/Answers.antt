-- `worksheet::framing::whole_to` meets its contract: the answer is the place it stands at, or that of the one before.
use mathlib.Core.Path.{◌≡◌, sym, ◌∙◌}
use Prim.Native.Nat.{◌+◌, ◌-◌}
use native.Mathlib.Omega.{arith}
use Rattle.worksheet.proofs.framing.Names.{whole_here, whole_before, whole_first}
use Rattle.worksheet.proofs.framing.whole_to.Goals as goal

pub returns-then-not-continues_letter : goal.returns-then-not-continues_letter
returns-then-not-continues_letter c =
    let l = c.loop-before in
    let e : l.before - 1 + 1 ≡ l.before = omega arith in
    let here = whole_here c.args.name.now l.before (rw e at (sym c.continues_letter.ensures ∙ c.if-not-continues_letter.true)) in
    (e ∙ sym here ∙ l.invariant, omega arith)

pub loop-before-preserved : goal.loop-before-preserved
loop-before-preserved c =
    let l = c.loop-before in
    let e : l.before - 1 + 1 ≡ l.before = omega arith in
    sym (whole_before c.args.name.now l.before (omega arith) (rw e at (sym c.continues_letter.ensures ∙ c.if-not-continues_letter.false))) ∙ l.invariant

pub returns : goal.returns
returns c =
    let l = c.loop-before in
    let none : l.before ≡ 0 = omega arith in
    (rw none at (whole_first c.args.name.now l.before (omega arith) ∙ l.invariant), omega arith)
