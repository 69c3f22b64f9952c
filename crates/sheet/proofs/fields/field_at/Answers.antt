-- `sheet::fields::field_at` meets its contract: each arm has the definition's row, and past the rows there is no field.
use native.Mathlib.Omega.{arith}
use Prim.Native.Nat.{◌≤◌}
use borrow.Author.Rules.{rules}
use Rattle.sheet.specs.Fields.{count}
use Rattle.sheet.proofs.fields.Rules.{no_field}
use Rattle.sheet.proofs.fields.field_at.Goals as goal

pub returns-in_default : goal.returns-in_default
returns-in_default c =
    let past : count ≤ c.args.i = omega arith in
    rw (← no_field c.args.i past) (search rules)
