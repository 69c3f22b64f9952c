-- Each block is shown behind those before it.
use Rattle.std.specs.Prelude.{◌≡◌, length}
use Rattle.channel.specs.Input.{SoFar}
use Rattle.channel.specs.Printing.{input_block}
use Rattle.channel.specs.Showing.{progress, at_first, InputShown}
use Rattle.channel.proofs.showing.show_all.Given as goal

abbrev pub invariant-loop : goal.invariant-loop
invariant-loop l = record {
  long : length l.space ≡ input_block;
  read : SoFar input_block (InputShown (at_first l.initial.buffer) (progress l.state l.buffer));
}
