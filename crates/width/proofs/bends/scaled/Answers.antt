-- `width::bends::scaled` meets its contract: the quotient in two parts is the whole quotient, and each part fits.
use mathlib.Core.Path.{sym}
use native.Mathlib.Omega.{arith}
use Rattle.laws.proofs.Quotients.{up_parts}
use Rattle.laws.proofs.Rounding.{rounded_up}
use Rattle.width.proofs.bends.Products.{whole_within, rest_within}
use Rattle.width.proofs.bends.scaled.Goals as goal

pub overflow_mul-whole : goal.overflow_mul-whole
overflow_mul-whole c = record { fits = omega (arith, whole_within c.args.ship c.args.square c.requires.0 c.requires.1) }

pub overflow_mul-rest : goal.overflow_mul-rest
overflow_mul-rest c = record { fits = omega (arith, rest_within c.args.ship c.args.square c.requires.0 c.requires.1) }

pub overflow_add-result : goal.overflow_add-result
overflow_add-result c =
    let part = rounded_up _ _ _ (omega arith) c.div_ceil.ensures in
    record { fits = omega (arith, whole_within c.args.ship c.args.square c.requires.0 c.requires.1, rest_within c.args.ship c.args.square c.requires.0 c.requires.1) }

pub returns : goal.returns
returns c = rw (rounded_up _ _ _ (omega arith) c.div_ceil.ensures) (sym (up_parts c.args.ship c.args.square 305750000 (omega arith)))
