-- `lines::words::put_words` meets its contract. The loop's invariant: the words passed stand, each behind one space.
use Rattle.std.proofs.Common.{◌+◌, ◌*◌, ◌≤◌, ◌≡◌, length}
use Rattle.lines.proofs.putting.Spacing.{Words}
use Rattle.lines.proofs.words.put_words.Given as goal

abbrev pub invariant-loop-word : goal.invariant-loop-word
invariant-loop-word g l = (length l.buffer ≡ length l.initial.buffer) × (l.end ≤ l.at + (g.T.Word.most + 1) * l.word-index)
    × Words g.T.Word.text l.words l.initial.buffer l.at l.word-index l.buffer l.end
