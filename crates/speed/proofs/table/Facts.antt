-- What is always true of table 2a. One test of each rule is computed over the whole table and carried to each point.
use Rattle.std.specs.Prelude.{Option, Some, None}
use mathlib.Core.Path.{◌≡◌, refl}
use mathlib.Core.Bool.{Bool, true, false}
use mathlib.Core.List.{List, []}
use Prim.Native.Nat.{ℕ, ◌+◌, ◌-◌, ◌*◌, ◌≤◌}
use native.Mathlib.Omega.{arith}
use lib.Dec.{T, leb→le, le→leb}
use lib.ListN.{get_or, replicate, get_or-replicate}
use Rattle.laws.specs.Choice.{ifᵇ◌then◌else◌, ◌≤ᵇ◌}
use Rattle.laws.specs.Every.{every}
use Rattle.laws.proofs.Every.{where_true, holds_there, every_at}
use Rattle.speed.specs.Lines.{parts_of}
use Rattle.speed.proofs.table.Grid.{inside}
use Rattle.speed.specs.Table.{dash, shallow_row, full_table, outside, full_row, entry, point_of, shallow_point, full_point}

-- a known point of a row stands at one of its depths
in_row : (row : List ℕ) (k m : ℕ) → point_of row k ≡ Some m → (4 ≤ k) × (k ≤ 16) × (entry (get_or row (k - 4) 0) ≡ Some m)
unfolding point_of
in_row row k m e = go (outside k 4 16) refl e
  where
    go : (b : Bool) → outside k 4 16 ≡ b → (ifᵇ b then None else entry (get_or row (k - 4) 0)) ≡ Some m
        → (4 ≤ k) × (k ≤ 16) × (entry (get_or row (k - 4) 0) ≡ Some m)
    go true o e = let z : ◌≡◌ {A = ℕ} 0 1 = cc in absurd (omega arith)
    go false o e = let there = inside k 4 16 o in (there.from, there.to, e)

-- a row of dashes has none
all_dashes : (k m : ℕ) → point_of (replicate 13 dash) k ≡ Some m → ⊥
unfolding entry
all_dashes k m e =
    let (low, high, known) = in_row (replicate 13 dash) k m e in
    let z : ◌≡◌ {A = ℕ} 0 1 = cc (known, get_or-replicate 13 (k - 4) dash 0 (omega arith)) in
    omega arith

-- a known point of the full sections is one of the table's widths and slopes
in_table : (i j k m : ℕ) → full_point i j k ≡ Some m → (i ≤ 5) × (j ≤ 3) × (k ≤ 16)
unfolding full_row
in_table i j k m e = go (outside i 1 5) (outside j 1 3) refl refl e
  where
    go : (a b : Bool) → outside i 1 5 ≡ a → outside j 1 3 ≡ b
        → point_of (ifᵇ a then replicate 13 dash else (ifᵇ b then replicate 13 dash else get_or full_table (3 * (i - 1) + (j - 1)) [])) k ≡ Some m
        → (i ≤ 5) × (j ≤ 3) × (k ≤ 16)
    go true b width slope e = absurd (all_dashes k m e)
    go false true width slope e = absurd (all_dashes k m e)
    go false false width slope e = ((inside i 1 5 width).to, (inside j 1 3 slope).to, (in_row _ k m e).1)

-- a speed is known
abbrev known : Option ℕ → Bool
known (Some n) = true
known None = false

known_at : (s : Option ℕ) (n : ℕ) → s ≡ Some n → T (known s)
known_at s n e = rw e tt

parts_at : (s : Option ℕ) → T (known s) → (n : ℕ) × (s ≡ Some n)
parts_at (Some n) t = (n, refl)
parts_at None t = absurd t

-- a test of each point: of the widths to 5, the slopes to 3 and the depths to 16
abbrev each_point : (ℕ → ℕ → ℕ → Bool) → Bool
each_point test = every 6 (λ i. every 4 (λ j. every 17 (λ k. test i j k)))

at_point : (test : ℕ → ℕ → ℕ → Bool) → T (each_point test) → (i j k : ℕ) → (i ≤ 5) × (j ≤ 3) × (k ≤ 16) → T (test i j k)
at_point test t i j k within =
    let widths = every_at 6 (λ a. every 4 (λ b. every 17 (test a b))) t i (omega arith) in
    let slopes = every_at 4 (λ b. every 17 (test i b)) widths j (omega arith) in
    every_at 17 (test i j) slopes k (omega arith)

-- a full section is no faster than shallow water
slower : ℕ → ℕ → ℕ → Bool
slower i j k = parts_of (full_point i j k) ≤ᵇ parts_of (shallow_point k)

slower_test : T (each_point slower)
unfolding slower point_of entry full_row
slower_test = tt

pub full_no_faster : (i j k m n : ℕ) → full_point i j k ≡ Some m → shallow_point k ≡ Some n → m ≤ n
unfolding slower
full_no_faster i j k m n full shallow =
    leb→le m n (rw (full, shallow) at (at_point slower slower_test i j k (in_table i j k m full)))

-- nor is a wider or flatter one slower
rising : ℕ → ℕ → ℕ → ℕ → ℕ → Bool
rising i j k i' j' =
    where_true (i ≤ᵇ i')
    (where_true (j ≤ᵇ j') (where_true (known (full_point i' j' k)) (parts_of (full_point i j k) ≤ᵇ parts_of (full_point i' j' k))))

rising_test : T (each_point (λ i j k. every 6 (λ i'. every 4 (rising i j k i'))))
unfolding rising point_of entry full_row
rising_test = tt

pub wider_no_slower : (i j k i' j' m n : ℕ) → full_point i j k ≡ Some m → full_point i' j' k ≡ Some n → i ≤ i' → j ≤ j' → m ≤ n
unfolding rising
wider_no_slower i j k i' j' m n e e' wider flatter =
    let within = in_table i' j' k n e' in
    let from = at_point (λ a b c. every 6 (λ a'. every 4 (rising a b c a'))) rising_test i j k (in_table i j k m e) in
    let to = every_at 4 (rising i j k i') (every_at 6 (λ a'. every 4 (rising i j k a')) from i' (omega arith)) j' (omega arith) in
    let in_order = holds_there (j ≤ᵇ j') _ (holds_there (i ≤ᵇ i') _ to (le→leb i i' wider)) (le→leb j j' flatter) in
    leb→le m n (rw (e, e') at (holds_there (known (full_point i' j' k)) _ in_order (known_at _ n e')))

-- the blanks of a row come first
filled : ℕ → ℕ → ℕ → ℕ → Bool
filled i j k k' = where_true (known (full_point i j k)) (where_true (k ≤ᵇ k') (known (full_point i j k')))

filled_test : T (each_point (λ i j k. every 17 (filled i j k)))
unfolding filled point_of entry full_row
filled_test = tt

pub deeper_is_there : (i j k k' m : ℕ) → full_point i j k ≡ Some m → k ≤ k' → k' ≤ 16 → (n : ℕ) × (full_point i j k' ≡ Some n)
unfolding filled
deeper_is_there i j k k' m e deeper last =
    let from = at_point (λ a b c. every 17 (filled a b c)) filled_test i j k (in_table i j k m e) in
    let to = every_at 17 (filled i j k) from k' (omega arith) in
    parts_at (full_point i j k') (holds_there (k ≤ᵇ k') _ (holds_there (known (full_point i j k)) _ to (known_at _ m e)) (le→leb k k' deeper))

-- the shallow row has no blank, and never falls
whole_row : ℕ → Bool
whole_row k = where_true (4 ≤ᵇ k) (known (shallow_point k))

whole_row_test : T (every 17 whole_row)
unfolding whole_row point_of entry
whole_row_test = tt

pub shallow_there : (k : ℕ) → 4 ≤ k → k ≤ 16 → (n : ℕ) × (shallow_point k ≡ Some n)
unfolding whole_row
shallow_there k first last =
    parts_at (shallow_point k) (holds_there (4 ≤ᵇ k) _ (every_at 17 whole_row whole_row_test k (omega arith)) (le→leb 4 k first))

faster : ℕ → ℕ → Bool
faster k k' = where_true (k ≤ᵇ k') (parts_of (shallow_point k) ≤ᵇ parts_of (shallow_point k'))

faster_test : T (every 17 (λ k. every 17 (faster k)))
unfolding faster point_of entry
faster_test = tt

pub shallow_rises : (k k' m n : ℕ) → shallow_point k ≡ Some m → shallow_point k' ≡ Some n → k ≤ k' → m ≤ n
unfolding faster
shallow_rises k k' m n e e' deeper =
    let within = in_row shallow_row k' n e' in
    let to = every_at 17 (faster k) (every_at 17 (λ a. every 17 (faster a)) faster_test k (omega arith)) k' (omega arith) in
    leb→le m n (rw (e, e') at (holds_there (k ≤ᵇ k') _ to (le→leb k k' deeper)))
