-- `typed::printing::put_name` meets its contract: the name's token, a space after it.
use mathlib.Core.Path.{◌≡◌}
use native.Mathlib.Omega.{arith}
use lib.ListN.{length}
use Rattle.lines.proofs.putting.Placing.{then_byte}
use Rattle.lines.specs.Lines.{space}
use Rattle.typed.specs.Lines.{name_text}
use Rattle.typed.proofs.printing.put_name.Goals as goal

pub returns : goal.returns
unfolding name_text
returns c =
    let sized : length c.args.row.name ≡ 16 = c.well_formed.0.1.1.0.1.0.1 in
    (then_byte space c.put_token-end.ensures.0 (omega arith), omega arith)

pub put_token-end-requires : goal.put_token-end-requires
put_token-end-requires c = omega (arith, c.well_formed.0.1.1.0.1.0.1)

pub bounds-buffer-end : goal.bounds-buffer-end
bounds-buffer-end c = omega (arith, c.well_formed.0.1.1.0.1.0.1)

pub overflow_add-result : goal.overflow_add-result
overflow_add-result c = omega (arith, c.well_formed.0.1.1.0.1.0.1)
