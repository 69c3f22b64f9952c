-- The bytes of a whole input are within its space; and what waits is told where the output takes it.
use Rattle.std.specs.Prelude.{Option, Some, None}
use mathlib.Core.Path.{◌≡◌, subst}
use mathlib.Core.Bool.{Bool, true, false}
use Prim.Native.Nat.{ℕ, ◌≤◌}
use Rattle.laws.specs.Choice.{ifᵇ◌then◌else◌}
use Rattle.channel.specs.Input.{ReadWithin}
use Rattle.channel.specs.Output.{rest_of}
use Rattle.channel.specs.declared.output.Out.{Out}

pub read_within : (w : Option ℕ) (n most : ℕ) → ReadWithin w most → w ≡ Some n → n ≤ most
read_within w n most h e = subst (λ (x : Option ℕ). ReadWithin x most) e h

pub rest_told : (P : Option ℕ → Type 0) (out : Out) → P (Some out.at) → P None → P (rest_of out)
rest_told P out some none = go out.«open»
  where
    go : (b : Bool) → P (ifᵇ b then Some out.at else None)
    go true = some
    go false = none
