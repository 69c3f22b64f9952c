-- The sheets that are left, put behind those that stand, are all of them. The measure is what is left.
use Rattle.std.specs.Prelude.{◌≡◌, length}
use Rattle.texts.specs.Shown.{sheet_bytes}
use Rattle.texts.specs.Texts.{all_of}
use Rattle.texts.specs.Typed.{all_from}
use Rattle.channel.specs.Output.{with_lines}
use Rattle.channel.specs.Typing.{lines_at, bytes_of_sheets}
use Rattle.channel.proofs.typing.put_sheets.Given as goal

abbrev pub invariant-loop-rt : goal.invariant-loop-rt
invariant-loop-rt l =
    with_lines sheet_bytes (bytes_of_sheets (all_from l.text l.now)) (lines_at l.out l.buffer)
    ≡ with_lines sheet_bytes (bytes_of_sheets (all_of l.text)) (record { at = 0; buffer = l.initial.buffer })

abbrev pub decreases-loop-rt : goal.decreases-loop-rt
decreases-loop-rt l = length (all_from l.text l.now)
