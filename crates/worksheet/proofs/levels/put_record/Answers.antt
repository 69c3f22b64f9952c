-- `worksheet::levels::put_record` meets its contract: the head and then the steps.
use native.Mathlib.Omega.{arith}
use Rattle.lines.proofs.putting.Placing.{put_on}
use Rattle.worksheet.specs.Levels.{record_part}
use Rattle.worksheet.proofs.levels.put_record.Goals as goal

pub returns : goal.returns
unfolding record_part
returns c = (put_on (c.put-head.ensures.put (omega arith)) c.put_steps.ensures.0 (omega (arith, c.requires, (c.put-head.ensures.bound (omega arith)))), omega (arith, (c.put-head.ensures.bound (omega arith)), c.put_steps.ensures.1))
