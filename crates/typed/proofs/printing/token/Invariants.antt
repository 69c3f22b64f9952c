-- `typed::printing::token` meets its contract. The loop's invariant: none of the bytes passed is a space.
use Rattle.typed.proofs.printing.Texts.{Inside}
use Rattle.typed.proofs.printing.token.Given as goal

abbrev pub invariant-loop-j : goal.invariant-loop-j
invariant-loop-j l = Inside l.slot l.j
