-- `worksheet::framing::put_hex` meets its contract. The loop's invariant: the digits of the bytes passed stand.
use Prim.Native.Nat.{◌+◌, ◌*◌, ◌≤◌}
use mathlib.Core.Path.{◌≡◌}
use lib.ListN.{length, take}
use Rattle.lines.specs.Lines.{Put}
use Rattle.worksheet.specs.Framing.{hex_text}
use Rattle.worksheet.proofs.framing.put_hex.Given as goal

abbrev pub invariant-loop-byte : goal.invariant-loop-byte
invariant-loop-byte l = (length l.buffer ≡ length l.initial.buffer) × (l.end ≤ l.at + 2 * l.byte-index) × Put l.initial.buffer l.at (hex_text (take l.byte-index l.bytes)) l.buffer l.end
