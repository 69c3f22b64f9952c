-- `worksheet::widths::put_sum` meets its contract: its text, filled with the tenths, the beam and the width.
use native.Mathlib.Omega.{arith}
use Rattle.worksheet.specs.Widths.{width_sum}
use Rattle.worksheet.proofs.widths.put_sum.Goals as goal

pub returns : goal.returns
unfolding width_sum
returns c =
    let put = c.put.ensures in
    (rw (c.from.ensures, c.from-2.ensures, c.from-3.ensures, c.tenths_of.ensures, c.width_of.ensures.value) at put.0, omega (arith, put.1))
