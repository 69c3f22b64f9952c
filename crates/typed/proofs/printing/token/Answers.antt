-- `typed::printing::token` meets its contract: what stands before the first space, or all where there is none.
use mathlib.Core.Path.{refl, sym}
use native.Mathlib.Omega.{arith}
use lib.ListN.{length-take}
use Rattle.std.proofs.Common.{take_all}
use Rattle.typed.proofs.printing.Texts.{further_inside, ends_at_space, ends_with_slot}
use Rattle.typed.proofs.printing.token.Goals as goal

pub loop-j-init : goal.loop-j-init
loop-j-init c = refl

pub loop-j-preserved : goal.loop-j-preserved
loop-j-preserved c = let l = c.loop-j in further_inside _ l.j l.invariant (omega arith) c.if-byte-eq-SPACE.false

pub returns-then-byte-eq-SPACE : goal.returns-then-byte-eq-SPACE
returns-then-byte-eq-SPACE c =
    let l = c.loop-j in
    (sym (ends_at_space _ l.j l.invariant (omega arith) c.if-byte-eq-SPACE.true), omega (arith, length-take l.j c.args.slot.now))

pub returns : goal.returns
returns c =
    let l = c.loop-j in
    (rw (take_all l.j c.args.slot.now (omega arith)) at (sym (ends_with_slot c.args.slot.now l.j l.invariant (omega arith))), omega arith)
