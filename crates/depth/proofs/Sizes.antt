-- What the sums and products of the depth come to, at most, for numbers of the widths that a stretch has.
use Prim.Native.Nat.{ℕ, ◌+◌, ◌-◌, ◌*◌, ◌^◌, ◌<◌}
use mathlib.Core.Path.{◌≡◌}
use native.Mathlib.Nat.{div-le_self}
use native.Mathlib.Omega.{arith}
use Rattle.laws.specs.Rounding.{up}
use Rattle.laws.proofs.Products.{product_lt}
use Rattle.depth.specs.declared.Stretch.{Stretch}
use Rattle.depth.specs.declared.Allowances.{Allowances}
use Rattle.depth.specs.Depth.{allowances_of, sailing_with}

pub filling_product : {filling dug : ℕ} → filling < 100000 → dug < 2 ^ 19 → filling * dug < 2 ^ 36
filling_product {filling} f d = product_lt 17 19 (let h : filling < 2 ^ 17 = omega arith in h) d

pub silt_size : {filling dug : ℕ} → filling < 100000 → dug < 2 ^ 19 → up (filling * dug) (100000 - filling) < 2 ^ 37
silt_size {filling} {dug} f d =
    let fewer = div-le_self (filling * dug + (100000 - filling - 1)) (100000 - filling) in
    omega (arith, filling_product {filling = filling} {dug = dug} f d)

-- what is added to the draft is the sailing depth
pub added_up : (q : Stretch) (a : Allowances) → a ≡ allowances_of q → (squat : ℕ) → q.draft + a.list + a.keel + a.wave + squat ≡ sailing_with q squat
unfolding allowances_of sailing_with
added_up q a is squat = rw is
