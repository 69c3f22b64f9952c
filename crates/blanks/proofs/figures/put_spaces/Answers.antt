-- `blanks::figures::put_spaces` meets its contract: spaces stand in the place of as many bytes.
use Rattle.std.proofs.Common.{replicate, ◌+◌, ◌-◌, ◌≡◌}
use native.Mathlib.Omega.{arith}
use lib.ListN.{length, take, drop, length-replicate, length-take, length-drop}
use Rattle.lines.specs.Lines.{space}
use Rattle.lines.proofs.putting.Placing.{put_part}
use Rattle.blanks.proofs.figures.put_spaces.Goals as goal

pub returns : goal.returns
returns c =
    let a = c.args in
    let count : length (take (a.at + a.count - a.at) (drop a.at a.buffer.now)) ≡ a.count = simp (length-take, length-drop) (omega arith) in
    let filled = rw count at (c.fill.ensures.after (λ y e. e)) in
    (rw filled (rw (length-replicate a.count space) at (put_part a.buffer.now a.at (replicate a.count space))), omega arith)
