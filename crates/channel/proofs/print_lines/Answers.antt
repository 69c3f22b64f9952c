-- The record's line, the sheets' lines and the route's, one behind the other.
use Rattle.std.specs.Prelude.{Option}
use Prim.Native.Nat.{ℕ}
use Rattle.channel.specs.Printing.{LinesPrinted}
use Rattle.channel.proofs.Bytes.{rest_told}
use Rattle.channel.proofs.Whole.{lines_put}
use Rattle.channel.proofs.print_lines.Goals as goal

pub returns : goal.returns
returns c =
    let a = c.args in
    let last = c.print_route in
    rw c.rest.ensures
    (rest_told (λ (rest : Option ℕ). LinesPrinted a.printer.form a.printer.level a.counts a.buffer.now rest last.new.buffer) last.result
    (lines_put a.printer.form a.buffer.now c.requires a.printer.level a.counts c.put_levels_line-at.result c.put_levels_line-at.new.buffer
    c.in_ok-state.state c.print_all.new.buffer last.result.at last.new.buffer
    c.put_levels_line-at.ensures.0 c.put_levels_line-at.ensures.1 c.in_ok-state.ensures last.ensures) tt)
