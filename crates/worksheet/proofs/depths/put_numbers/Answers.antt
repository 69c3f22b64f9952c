-- `worksheet::depths::put_numbers` meets its contract: the two halves of the line, one behind the other.
use native.Mathlib.Omega.{arith}
use Rattle.lines.proofs.putting.Placing.{put_on}
use Rattle.worksheet.specs.Depths.{try_numbers}
use Rattle.worksheet.proofs.depths.put_numbers.Goals as goal

pub returns : goal.returns
unfolding try_numbers
returns c =
    let front = rw (c.letter.ensures, c.from.ensures) at c.put-front.ensures.0 in
    let back = rw c.letter-2.ensures at c.put.ensures.0 in
    (put_on front back (omega (arith, c.requires, c.put-front.ensures.1)), omega (arith, c.put-front.ensures.1, c.put.ensures.1))
