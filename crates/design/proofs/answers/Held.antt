-- A row of numbers that the machine holds is the row of the numbers.
use mathlib.Core.Path.{◌≡◌, ap₂, ◌∙◌}
use mathlib.Core.List.{List, ◌∷◌}
use Prim.Native.Nat.{◌<◌, ◌^◌}
use lib.IntN.{ℤ}
use lib.Signed.{mag}
use mir.Syntax.{w32}
use mir.Val.{to_z, of_z}
use mir.Facts.{to_z-of_z}

-- one number more in front: z is what the machine holds, and v what it stands for
pub held : {z v : ℤ} {row numbers : List ℤ} → mag z < 2 ^ 31 → z ≡ v → row ≡ numbers → to_z w32 (of_z w32 z) ∷ row ≡ v ∷ numbers
held fits is rest = ap₂ ◌∷◌ (to_z-of_z {w = w32} (record { sfits = fits }) ∙ is) rest
