-- `lines::words::put_words` meets its contract. The loop's invariant: the words passed stand, each behind one space.
use Rattle.std.proofs.Common.{refl, ◌+◌, ◌*◌, ◌≤◌}
use native.Mathlib.Omega.{arith}
use native.Mathlib.Nat.{mul-suc, mul-le-mul_left}
use lib.ListN.{length, get_or, set, length-set}
use Rattle.lines.specs.Lines.{space, Put}
use Rattle.lines.proofs.putting.Spacing.{no_words, next_word}
use Rattle.lines.proofs.words.put_words.Goals as goal

pub loop-word-init : goal.loop-word-init
loop-word-init g c = (refl, omega arith, no_words g.T.Word.text c.args.words.now)

pub loop-word-preserved : goal.loop-word-preserved
loop-word-preserved g c =
    let l = c.loop-word in
    let p = c.put-end.ensures in
    let word = c.word-item.result in
    let here : Put (set l.buffer l.end space) (l.end + 1) (g.T.Word.text (get_or c.args.words.now l.word-index word)) c.put-end.new.buffer c.put-end.result = rw (← c.word-item.is) p.0 in
    let next = mul-suc (g.T.Word.most + 1) l.word-index in
    let within : (g.T.Word.most + 1) * (l.word-index + 1) ≤ (g.T.Word.most + 1) * length c.args.words.now = mul-le-mul_left (g.T.Word.most + 1) (omega arith) in (
      omega (arith, length-set l.buffer l.end 32),
      omega arith,
      next_word g.T.Word.text c.args.words.now l.word-index word l.invariant.2 here (omega arith) (omega arith),
    )
