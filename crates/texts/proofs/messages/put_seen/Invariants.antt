-- `texts::messages::put_seen` meets its contract. The loop's invariant: the bytes passed stand, as they are shown.
use Prim.Native.Nat.{◌+◌}
use mathlib.Core.List.{map}
use lib.ListN.{take}
use Rattle.lines.specs.Lines.{Put}
use Rattle.texts.specs.Messages.{shown}
use Rattle.texts.proofs.messages.put_seen.Given as goal

abbrev pub invariant-loop-j : goal.invariant-loop-j
invariant-loop-j l = Put l.initial.buffer l.at (map shown (take l.j l.bytes)) l.buffer (l.at + l.j)
