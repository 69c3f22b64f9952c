-- `worksheet::depths::put_found` meets its contract: the numbers, and then what the finding says.
use native.Mathlib.Omega.{arith}
use Rattle.lines.proofs.putting.Placing.{put_on}
use Rattle.worksheet.proofs.depths.put_found.Goals as goal

pub returns-in-Stays : goal.returns-in-Stays
returns-in-Stays c = rw (c.in-Ok.is, c.in-Stays.is) (put_on c.put_numbers-end.ensures.0 (c.put.ensures.put (omega (arith, c.requires, c.put_numbers-end.ensures.1))) (omega (arith, c.requires, c.put_numbers-end.ensures.1)), omega (arith, c.put_numbers-end.ensures.1, (c.put.ensures.bound (omega (arith, c.requires, c.put_numbers-end.ensures.1)))))

pub returns-in-Moves : goal.returns-in-Moves
returns-in-Moves c =
    let moves = rw c.letter.ensures at c.put-in-Moves.ensures.0 in
    rw (c.in-Ok.is, c.in-Moves.is) (put_on c.put_numbers-end.ensures.0 moves (omega (arith, c.requires, c.put_numbers-end.ensures.1)), omega (arith, c.put_numbers-end.ensures.1, c.put-in-Moves.ensures.1))
