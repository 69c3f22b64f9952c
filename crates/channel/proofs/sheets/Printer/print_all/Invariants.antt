-- Each block is printed behind those before it.
use Rattle.std.specs.Prelude.{◌≡◌, length}
use Rattle.channel.specs.Input.{SoFar}
use Rattle.channel.specs.Printing.{input_block, progress, at_first, InputPrinted}
use Rattle.channel.proofs.sheets.Printer.print_all.Given as goal

abbrev pub invariant-loop : goal.invariant-loop
invariant-loop l = record {
  long : length l.space ≡ input_block;
  read : SoFar input_block (InputPrinted l.self.form l.self.level (at_first l.at l.initial.buffer) (progress l.state l.buffer));
}
