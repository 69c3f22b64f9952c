-- `sheet::bits::Held::put` meets its contract: below 2 ^ 60 the shift and the sum lose nothing.
use mathlib.Core.Path.{refl}
use native.Mathlib.Omega.{arith}
use Rattle.sheet.proofs.bits.Steps.{put_fits, put_shift}
use Rattle.sheet.proofs.bits.Held.put.Goals as goal

pub overflow_add-result : goal.overflow_add-result
overflow_add-result c =
    let a = c.args in
    let p = c.requires in
    record { fits = rw (put_shift a.self.n a.w p.0 p.2) (omega (arith, put_fits a.self.n a.w p.0 p.1 p.2)) }

pub returns : goal.returns
returns c =
    let a = c.args in
    let p = c.requires in
    (rw (put_shift a.self.n a.w p.0 p.2), refl)
