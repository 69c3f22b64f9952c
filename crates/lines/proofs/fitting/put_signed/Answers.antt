-- `lines::fitting::put_signed` meets its contract: where there is room, what is put is the number's text, of 11 bytes at most.
use native.Mathlib.Omega.{arith}
use mir.Facts.{to_z-of_z}
use Rattle.lines.proofs.putting.Fitting.{put_within}
use Rattle.lines.proofs.putting.Signs.{number_at_most}
use Rattle.lines.proofs.fitting.put_signed.Goals as goal

pub returns-clause-put : goal.returns-clause-put
returns-clause-put c = λ h. put_within _ _ _ _ h (rw (to_z-of_z c.ranges.number) at c.put_signed.ensures)

pub returns-clause-bound : goal.returns-clause-bound
returns-clause-bound c =
    λ h. let p = put_within _ _ _ _ h (rw (to_z-of_z c.ranges.number) at c.put_signed.ensures) in
    omega (arith, p.after, number_at_most c.args.number c.ranges.number)
