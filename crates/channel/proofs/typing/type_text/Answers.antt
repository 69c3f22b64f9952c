-- Past the test of the faults there is none, and then all bytes are put.
use Rattle.std.specs.Prelude.{Option}
use mathlib.Core.Path.{sym, ◌∙◌}
use Prim.Native.Nat.{ℕ}
use Rattle.channel.specs.Typing.{TypedOut}
use Rattle.channel.proofs.Bytes.{rest_told}
use Rattle.channel.proofs.Faults.{bytes_out}
use Rattle.channel.proofs.typing.type_text.Goals as goal

pub returns : goal.returns
returns c =
    let a = c.args in
    let put = c.put_sheets in
    rw c.rest.ensures
    (rest_told (λ (rest : Option ℕ). TypedOut a.text.now a.buffer.now rest put.new.buffer) put.result
    (bytes_out a.text.now a.buffer.now _ _ c.requires (sym c.tell_faults.ensures ∙ c.if-tell_faults.false) put.ensures) tt)
