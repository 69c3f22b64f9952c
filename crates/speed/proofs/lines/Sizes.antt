-- How great speeds can be: parts by their weights stay within the numbers that hold them.
use Rattle.std.specs.Prelude.{Option}
use mathlib.Core.Path.{◌≡◌}
use Prim.Native.Nat.{ℕ, ◌+◌, ◌*◌, ◌^◌, ◌≤◌, ◌<◌}
use native.Mathlib.Nat.{mul-le-mul_left}
use native.Mathlib.Omega.{arith}
use Rattle.laws.proofs.Products.{product_lt}
use Rattle.speed.specs.Lines.{parts_of, times, part, weighed}
use Rattle.speed.proofs.lines.Weighing.{times_parts, part_parts, weighed_most}

-- so many times a speed of at most m
pub times_within : (weight m most : ℕ) (speed r : Option ℕ) → r ≡ times weight speed → parts_of speed ≤ m → weight * m ≤ most → parts_of r ≤ most
times_within weight m most speed r is low within = rw (is, times_parts weight speed) (omega (arith, mul-le-mul_left weight low))

-- two speeds of at most m, each by its weight
pub weighed_within : (near far m most : ℕ) (here next r : Option ℕ) → r ≡ weighed near here far next → parts_of here ≤ m → parts_of next ≤ m
    → (near + far) * m ≤ most → parts_of r ≤ most
weighed_within near far m most here next r is low high within = rw is (omega (arith, weighed_most near here far next m low high))

-- a part of what is held in 29 bits by a weight of 16 is held in 45
pub part_small : (weight : ℕ) (speed : Option ℕ) → weight < 2 ^ 16 → parts_of speed < 2 ^ 29 → parts_of (part weight speed) < 2 ^ 45
part_small weight speed light small = rw (part_parts weight speed) (product_lt 16 29 light small)
