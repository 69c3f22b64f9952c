-- The sheets that are left, put behind those that stand, are all of them. The measure is what is left.
use Rattle.std.specs.Prelude.{◌≡◌, length}
use Rattle.texts.specs.Typed.{all_from}
use Rattle.channel.specs.Worksheets.{named_from, named_of, progress, all_put}
use Rattle.channel.proofs.worksheets.Putting.put_typed.Given as goal

abbrev pub invariant-loop-self : goal.invariant-loop-self
invariant-loop-self l =
    all_put l.self.pass l.self.steps (named_from l.text l.cursor (all_from l.text l.cursor)) (progress l.now l.buffer)
    ≡ all_put l.self.pass l.self.steps (named_of l.text) (progress l.initial.now l.initial.buffer)

abbrev pub decreases-loop-self : goal.decreases-loop-self
decreases-loop-self l = length (all_from l.text l.cursor)
