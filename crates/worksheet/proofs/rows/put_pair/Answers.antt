-- `worksheet::rows::put_pair` meets its contract: the two lines, spaces between them and the newline.
use mathlib.Core.Path.{◌≡◌}
use Prim.Native.Nat.{ℕ, ◌-◌}
use native.Mathlib.Omega.{arith}
use lib.ListN.{length, replicate, length-take}
use Rattle.lines.proofs.putting.Placing.{put_on}
use Rattle.worksheet.proofs.Pairing.{so_many}
use Rattle.worksheet.specs.Rows.{row_text, left_text, pair_text}
use Rattle.worksheet.proofs.rows.put_pair.Goals as goal

pub put_row-right-requires : goal.put_row-right-requires
put_row-right-requires c = let many = length-take c.saturating_sub-spaces.result (replicate {A = ℕ} 36 32) in (omega arith, omega (arith, c.requires, c.put_row-left.ensures.1, (c.put-middle.ensures.bound (omega arith))))

pub returns : goal.returns
unfolding pair_text left_text
returns c = let enough = c.requires in let left_end = c.put_row-left.ensures.1 in let spaces-end = c.put-middle.ensures.bound (omega arith) in let right_end = c.put_row-right.ensures.1 in let last = c.put.ensures.bound (omega arith) in let many = length-take c.saturating_sub-spaces.result (replicate {A = ℕ} 36 32) in let line : c.put_row-left.result - c.args.at ≡ length (row_text c.args.figures c.args.i) = omega (arith, c.put_row-left.ensures.0.after) in let between = rw (so_many c.saturating_sub-spaces.result 36 (omega arith), c.saturating_sub-spaces.ensures, line) at (c.put-middle.ensures.put (omega arith)) in (put_on (put_on (put_on c.put_row-left.ensures.0 between (omega arith)) c.put_row-right.ensures.0 (omega arith)) (c.put.ensures.put (omega arith)) (omega arith), omega arith)
