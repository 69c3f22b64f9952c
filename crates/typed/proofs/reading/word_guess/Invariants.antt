-- `typed::reading::word_guess` meets its contract: it looks at the words in order. The loop's invariant: no word passed stands there.
use mathlib.Core.Path.{◌≡◌}
use mathlib.Core.Bool.{false}
use Prim.Native.Nat.{ℕ, ◌<◌}
use Rattle.typed.specs.Reading.{word_stands}
use Rattle.typed.proofs.reading.word_guess.Given as goal

abbrev pub invariant-loop-j : goal.invariant-loop-j
invariant-loop-j l = (k : ℕ) → k < l.j → word_stands l.words l.bytes k ≡ false
