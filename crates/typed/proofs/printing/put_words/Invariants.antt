-- `typed::printing::put_words` meets its contract. The loop's invariant: the lines of the words passed stand, each behind ` | `.
use Prim.Native.Nat.{◌+◌, ◌*◌, ◌-◌, ◌≤◌}
use mathlib.Core.Path.{◌≡◌}
use lib.ListN.{length}
use Rattle.typed.proofs.printing.Words.{Worded}
use Rattle.typed.proofs.printing.put_words.Given as goal

abbrev pub invariant-loop-j : goal.invariant-loop-j
invariant-loop-j l =
    (length l.buffer ≡ length l.initial.buffer) × (l.end + 83 * (6 - l.j) ≤ l.at + 415) × Worded l.row l.initial.buffer l.at l.j l.buffer l.end
