-- `typed::row_named` meets its contract: it looks at the rows in order. The loop's invariant: the line has the name of no row passed.
use mathlib.Core.Path.{◌≡◌, sym, ◌∙◌}
use Prim.Native.Nat.{◌+◌, ◌-◌}
use native.Mathlib.Omega.{arith}
use borrow.Author.Count.{below_more}
use borrow.Author.Tests.{ne_eqb}
use Rattle.laws.specs.First.{first_of}
use Rattle.laws.proofs.First.{first_is, none_is}
use Rattle.typed.specs.Reading.{named, row_named}
use Rattle.typed.proofs.row_named.Goals as goal

pub returns-then-has_name : goal.returns-then-has_name
unfolding row_named named
returns-then-has_name c =
    let i = c.loop-i.i in
    let here = sym (rw c.row_at.ensures at c.has_name.ensures) ∙ c.if-has_name.true in
    let first : first_of (named c.args.line.now) 28 ≡ i + 1 =
    first_is _ 28 i (record { within = omega arith; here = here; none_before = c.loop-i.invariant }) in
    let back : i + 1 - 1 ≡ i = omega arith in
    rw (first, ne_eqb (i + 1) 0 (λ e. omega arith), back)

pub loop-i-preserved : goal.loop-i-preserved
unfolding named
loop-i-preserved c =
    let l = c.loop-i in below_more _ l.i l.invariant (sym (rw c.row_at.ensures at c.has_name.ensures) ∙ c.if-has_name.false)

pub returns : goal.returns
unfolding row_named
returns c = rw (none_is _ 28 (λ k h. c.loop-i.invariant k (omega arith)))
