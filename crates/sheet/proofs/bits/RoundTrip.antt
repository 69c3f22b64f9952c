-- Groups and bytes, there and back.
use mathlib.Core.Path.{◌≡◌, ap, sym, ◌∙◌}
use mathlib.Core.List.{List}
use Prim.Native.Nat.{ℕ, ◌^◌, ◌<◌}
use native.Mathlib.Nat.{zero-add}
use lib.ListN.{length}
use Rattle.sheet.specs.Bits.{starts, joined, cut}
use Rattle.sheet.specs.Fields.{groups, width, nth}
use Rattle.sheet.specs.Packing.{size, eight, listed, number_of, groups_of, bytes_of, Narrow, Bytes}
use Rattle.sheet.proofs.bits.Groups.{joined_lt, cut_joined, joined_cut, cut_lt}
use Rattle.sheet.proofs.bits.Regroup.{joined_same, listed_at, listed_is}
use Rattle.sheet.proofs.bits.Widths.{same_size}

-- groups of one kind, cut into groups of another, join to the same number
pub regrouped : (w u v : ℕ → ℕ) (n m : ℕ) → starts w n ≡ starts u m → ((k : ℕ) → k < n → v k < 2 ^ w k)
    → joined u (nth (listed (cut u m (joined w v n)) 0 m)) m ≡ joined w v n
regrouped w u v n m e b =
    joined_same u _ _ m (λ j l. listed_at _ 0 m j l ∙ ap (cut u m (joined w v n)) (zero-add j))
    ∙ joined_cut u m (joined w v n) (rw (← e) (joined_lt w v n b))

-- so they are read back
again : (w u v : ℕ → ℕ) (n m : ℕ) → starts w n ≡ starts u m → ((k : ℕ) → k < n → v k < 2 ^ w k)
    → (k : ℕ) → k < n → cut w n (joined u (nth (listed (cut u m (joined w v n)) 0 m)) m) k ≡ v k
again w u v n m e b k h = ap (λ (x : ℕ). cut w n x k) (regrouped w u v n m e b) ∙ cut_joined w v n b k h

pub groups_of_bytes : (v : List ℕ) → Narrow v → (k : ℕ) → k < groups → nth (groups_of (bytes_of v)) k ≡ nth v k
unfolding groups_of bytes_of number_of Narrow
groups_of_bytes v b k h =
    listed_at _ 0 groups k h
    ∙ ap (cut width groups (joined eight (nth (bytes_of v)) size)) (zero-add k)
    ∙ again width eight (nth v) groups size same_size b k h

pub bytes_of_groups : (s : List ℕ) → length s ≡ size → Bytes s → bytes_of (groups_of s) ≡ s
unfolding groups_of bytes_of number_of
bytes_of_groups s l b = sym (listed_is _ size s l (λ k h. sym (again eight width (nth s) size groups (sym same_size) b k h)))

-- each group of bytes is within its bits
pub groups_narrow : (bytes : List ℕ) → Narrow (groups_of bytes)
unfolding Narrow groups_of
groups_narrow bytes k h =
    rw (listed_at (cut width groups (number_of bytes)) 0 groups k h, zero-add) (cut_lt width groups (number_of bytes) k)
