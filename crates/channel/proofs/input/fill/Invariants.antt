-- What is filled lies within the space.
use Rattle.std.specs.Prelude.{◌≤◌, length}
use Rattle.channel.proofs.input.fill.Given as goal

abbrev pub invariant-loop : goal.invariant-loop
invariant-loop g l = l.have ≤ length l.space
