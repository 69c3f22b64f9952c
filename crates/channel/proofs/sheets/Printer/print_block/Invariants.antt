-- The sheets that are left, printed behind those that stand, are all of them.
use Rattle.std.specs.Prelude.{◌≡◌}
use Rattle.std.specs.Slice.Iter.{chunks_rest, chunks_size}
use Rattle.channel.specs.Text.{sheets_of}
use Rattle.channel.specs.Printing.{progress, sheets_printed}
use Rattle.channel.proofs.sheets.Printer.print_block.Given as goal

abbrev pub invariant-loop-sheet : goal.invariant-loop-sheet
invariant-loop-sheet l = record {
  size : chunks_size l.sheet-iterator ≡ 28;
  all : sheets_printed l.self.form l.self.level (sheets_of (chunks_rest l.sheet-iterator)) (progress l.now l.buffer)
      ≡ sheets_printed l.self.form l.self.level (sheets_of l.block) (progress l.initial.now l.initial.buffer);
}
