-- `lines::within::put_long_count` meets its contract. The loop's invariant: the digits from place on stand, and what is left of the count is still to be put.
use Rattle.std.proofs.Common.{◌≡◌, ◌+◌, ◌≤◌, length}
use Rattle.lines.proofs.putting.Counting.{Standing}
use Rattle.lines.proofs.within.put_long_count.Given as goal

abbrev pub invariant-loop-place : goal.invariant-loop-place
invariant-loop-place l = (length l.buffer ≡ length l.initial.buffer) × (l.end ≤ l.at + 20) × Standing l.initial.buffer l.at l.count l.end l.buffer l.place l.rest
