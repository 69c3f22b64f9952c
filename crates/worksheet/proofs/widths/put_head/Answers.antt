-- `worksheet::widths::put_head` meets its contract: its text, filled with the beam and the words of the speed and the water.
use native.Mathlib.Omega.{arith}
use Rattle.worksheet.specs.Widths.{width_head}
use Rattle.worksheet.proofs.widths.put_head.Goals as goal

pub returns : goal.returns
unfolding width_head
returns c =
    let put = c.put_worded.ensures in
    (rw (c.from.ensures, c.band_word.ensures, c.water_word.ensures) at put.0, omega (arith, put.1))
