-- `lines::fitting::put_byte` meets its contract: where there is room, what is put is the byte.
use native.Mathlib.Omega.{arith}
use Rattle.lines.proofs.putting.Fitting.{put_within}
use Rattle.lines.proofs.fitting.put_byte.Goals as goal

pub returns-clause-put : goal.returns-clause-put
returns-clause-put c = λ h. put_within _ _ _ _ h c.put_bytes.ensures

pub returns-clause-bound : goal.returns-clause-bound
returns-clause-bound c = λ h. let p = put_within _ _ _ _ h c.put_bytes.ensures in omega (arith, p.after)
