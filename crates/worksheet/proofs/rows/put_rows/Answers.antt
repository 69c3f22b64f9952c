-- `worksheet::rows::put_rows` meets its contract: the pairs, and then an empty line.
use native.Mathlib.Omega.{arith}
use Rattle.lines.proofs.putting.Placing.{put_on}
use Rattle.worksheet.specs.Rows.{rows_part}
use Rattle.worksheet.proofs.rows.put_rows.Goals as goal

pub returns : goal.returns
unfolding rows_part
returns c = let enough = c.requires in let pairs_end = c.put_pairs-last.ensures.1 in let last = c.put.ensures.bound (omega arith) in (put_on c.put_pairs-last.ensures.0 (c.put.ensures.put (omega arith)) (omega arith), omega arith)
