-- Bytes are accepted, and a text in which no fault was told.
use mathlib.Core.Path.{sym, ◌∙◌}
use Rattle.channel.proofs.Bundles.{accepted, accepted_text}
use Rattle.channel.specs.declared.worksheets.Source.TheVariants.{Bytes, Typed}
use Rattle.channel.proofs.worksheets.put_faultless.Goals as goal

pub returns-in-Bytes : goal.returns-in-Bytes
returns-in-Bytes c =
    let a = c.args in
    rw c.in-Bytes.is (accepted Bytes a.input.now a.buffer.now _ a.steps a.counts c.put_worksheets.result tt (rw c.in-Bytes.is at c.put_worksheets.ensures))

pub returns-else-tell_faults : goal.returns-else-tell_faults
returns-else-tell_faults c =
    let a = c.args in
    rw c.in-Typed.is (accepted Typed a.input.now a.buffer.now _ a.steps a.counts c.put_worksheets-in-Typed.result
    (accepted_text a.input.now (sym c.tell_faults.ensures ∙ c.if-tell_faults.false)) (rw c.in-Typed.is at c.put_worksheets-in-Typed.ensures))
