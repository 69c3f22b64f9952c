-- The sheets that are left, put behind those that stand, are all of them.
use Rattle.std.specs.Prelude.{◌≡◌}
use Rattle.std.specs.Slice.Iter.{chunks_rest, chunks_size}
use Rattle.channel.specs.Text.{sheets_of}
use Rattle.channel.specs.Worksheets.{unnamed, progress, all_put}
use Rattle.channel.proofs.worksheets.Putting.put_bytes.Given as goal

abbrev pub invariant-loop-sheet : goal.invariant-loop-sheet
invariant-loop-sheet l = record {
  size : chunks_size l.sheet-iterator ≡ 28;
  all : all_put l.self.pass l.self.steps (unnamed (sheets_of (chunks_rest l.sheet-iterator))) (progress l.now l.buffer)
      ≡ all_put l.self.pass l.self.steps (unnamed (sheets_of l.input)) (progress l.initial.now l.initial.buffer);
}
