-- `blanks::put_text` meets its contract. The loop's invariant: the text up to the bytes left stands with its blanks filled, and there is room for the rest.
use Rattle.std.proofs.Common.{◌+◌, ◌*◌, ◌≤◌, ◌≡◌, length}
use Rattle.std.specs.Slice.Iter.{iter_rest}
use Rattle.blanks.proofs.meaning.Filling.{Filling}
use Rattle.blanks.proofs.put_text.Given as goal

abbrev pub invariant-loop-byte : goal.invariant-loop-byte
invariant-loop-byte l =
    (length l.buffer ≡ length l.initial.buffer) × (l.end + 12 * length (iter_rest l.bytes) ≤ l.at + 12 * length l.text)
    × Filling l.words l.text l.figures l.initial.buffer l.at (iter_rest l.bytes) (iter_rest l.left) l.buffer l.end
