-- Groups of bits one after another, most significant bit first. Group k is w k bits wide and holds v k.
use Rattle.std.specs.Prelude.{ℕ, zero, suc, ◌+◌, ◌-◌, ◌*◌, ◌/◌, ◌%◌, ◌^◌, List, [], ◌∷◌, ◌++◌}

-- the w bits of a number, most significant first
unfoldable pub bits_of : ℕ → ℕ → List ℕ
bits_of zero x = []
bits_of (suc w) x = x / 2 ^ w % 2 ∷ bits_of w x

-- the bits of the first n groups, one group after another
unfoldable pub strung : (ℕ → ℕ) → (ℕ → ℕ) → ℕ → List ℕ
strung w v zero = []
strung w v (suc n) = strung w v n ++ bits_of (w n) (v n)

-- how many bits the first n groups take
unfoldable pub starts : (ℕ → ℕ) → ℕ → ℕ
starts w zero = 0
starts w (suc n) = starts w n + w n

-- the first n groups as one number
unfoldable pub joined : (ℕ → ℕ) → (ℕ → ℕ) → ℕ → ℕ
joined w v zero = 0
joined w v (suc n) = joined w v n * 2 ^ w n + v n

-- group k of a number of n groups
unfoldable pub cut : (ℕ → ℕ) → ℕ → ℕ → ℕ → ℕ
cut w n x k = x / 2 ^ (starts w n - starts w (suc k)) % 2 ^ w k
