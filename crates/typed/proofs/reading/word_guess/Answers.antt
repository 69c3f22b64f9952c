-- `typed::reading::word_guess` meets its contract: it looks at the words in order. The loop's invariant: no word passed stands there.
use mathlib.Core.Path.{sym, ◌∙◌}
use native.Mathlib.Omega.{arith}
use borrow.Author.Count.{below_more}
use Rattle.laws.proofs.First.{first_is, none_is}
use Rattle.typed.specs.Reading.{word_guess}
use Rattle.typed.proofs.reading.word_guess.Goals as goal

pub returns-then-word_stands : goal.returns-then-word_stands
unfolding word_guess
returns-then-word_stands c =
    let l = c.loop-j in
    let here = sym c.word_stands.ensures ∙ c.if-word_stands.true in
    rw (first_is _ 6 l.j (record { within = omega arith; here = here; none_before = l.invariant })) (omega arith)

pub loop-j-preserved : goal.loop-j-preserved
loop-j-preserved c = let l = c.loop-j in below_more _ l.j l.invariant (sym c.word_stands.ensures ∙ c.if-word_stands.false)

pub returns : goal.returns
unfolding word_guess
returns c = rw (none_is _ 6 (λ k h. c.loop-j.invariant k (omega arith))) (omega arith)
