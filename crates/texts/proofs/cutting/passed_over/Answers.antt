-- `texts::cutting::passed_over` meets its contract. The loop's invariant: only blanks were passed.
use mathlib.Core.Path.{refl, sym, ◌∙◌}
use native.Mathlib.Omega.{arith}
use lib.ListN.{drop_of_length-le}
use Rattle.texts.proofs.cutting.Lines.{pass_comment, pass_on, pass_none, pass_blank}
use Rattle.texts.proofs.cutting.passed_over.Goals as goal

pub returns-then-byte-eq-HASH : goal.returns-then-byte-eq-HASH
returns-then-byte-eq-HASH c =
    let l = c.loop-byte in
    let line = c.args.line.now in
    sym (pass_comment line l.byte-index (omega arith) c.if-byte-eq-HASH.true) ∙ l.invariant

pub returns-then-not-is_blank : goal.returns-then-not-is_blank
returns-then-not-is_blank c =
    let l = c.loop-byte in
    let line = c.args.line.now in
    sym (pass_none line l.byte-index (omega arith) c.if-byte-eq-HASH.false (sym c.is_blank.ensures ∙ c.if-not-is_blank.true)) ∙ l.invariant

pub loop-byte-preserved : goal.loop-byte-preserved
loop-byte-preserved c =
    let l = c.loop-byte in
    let line = c.args.line.now in
    let e = pass_on line l.byte-index (omega arith) c.if-byte-eq-HASH.false (sym c.is_blank.ensures ∙ c.if-not-is_blank.false) in
    sym e ∙ l.invariant

pub returns : goal.returns
returns c =
    let l = c.loop-byte in
    let line = c.args.line.now in
    sym (rw (drop_of_length-le line {i = l.byte-index} (omega arith)) pass_blank) ∙ l.invariant

pub loop-byte-init : goal.loop-byte-init
loop-byte-init c = refl
