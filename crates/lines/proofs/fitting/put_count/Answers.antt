-- `lines::fitting::put_count` meets its contract: where there is room, what is put is the count's text, of 20 bytes at most.
use native.Mathlib.Omega.{arith}
use Rattle.lines.proofs.putting.Counting.{count_at_most}
use Rattle.lines.proofs.putting.Fitting.{put_within}
use Rattle.lines.proofs.fitting.put_count.Goals as goal

pub returns-clause-put : goal.returns-clause-put
returns-clause-put c = λ h. put_within _ _ _ _ h c.put_decimal.ensures

pub returns-clause-bound : goal.returns-clause-bound
returns-clause-bound c =
    λ h. let p = put_within _ _ _ _ h c.put_decimal.ensures in omega (arith, p.after, count_at_most 19 c.args.count (omega (arith, c.ranges.count.fits)))
