-- A fault was told, or is among what is left. The measure is what is left.
use Rattle.std.specs.Prelude.{◌≡◌, true, length}
use Rattle.laws.specs.Choice.{ifᵇ◌then◌else◌}
use Rattle.texts.specs.Texts.{all_of}
use Rattle.texts.specs.Typed.{all_from}
use Rattle.channel.specs.Typing.{any_fault}
use Rattle.channel.proofs.typing.tell_faults.Given as goal

abbrev pub invariant-loop-rt : goal.invariant-loop-rt
invariant-loop-rt l = (ifᵇ l.told then true else any_fault (all_from l.text l.now)) ≡ any_fault (all_of l.text)

abbrev pub decreases-loop-rt : goal.decreases-loop-rt
decreases-loop-rt l = length (all_from l.text l.now)
