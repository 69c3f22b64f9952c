-- Sailing depth and silt only grow with the stretch and with the column, so what serves a harder stretch serves an easier one.
use mathlib.Core.Path.{◌≡◌, refl}
use mathlib.Core.Bool.{Bool, true, false}
use Prim.Native.Nat.{ℕ, ◌+◌, ◌-◌, ◌*◌, ◌≤◌, ◌<◌, zero-le}
use native.Mathlib.Nat.{mul-le-mul}
use native.Mathlib.Omega.{arith}
use borrow.Author.Tests.{leb-true, leb-false}
use lib.Dec.{leb}
use Rattle.laws.specs.Choice.{ifᵇ◌then◌else◌}
use Rattle.laws.proofs.Rounding.{up_mono}
use Rattle.depth.specs.declared.Stretch.{Stretch}
use Rattle.depth.specs.declared.Column.{Column}
use Rattle.depth.specs.Squat.{none, column_number, squat_reading}
use Rattle.depth.specs.Depth.{z3, silt_to, z4, natural_of, sailing, sailing_with, Serves}
use Rattle.depth.specs.Harder.{Harder}
use Rattle.depth.proofs.squat.Table.{entry_from, lanes_columns_speeds}

-- a stretch is as hard as itself
pub as_hard : (q : Stretch) → Harder q q
as_hard q = omega arith

-- a column with an entry is one at a speed of the table
pub table_speed : (q : Stretch) (c : Column) → z3 q c < none → 2 ≤ q.speed
unfolding z3
table_speed q c h = entry_from (column_number c) (squat_reading q.lanes) q.speed h

module _ (q q' : Stretch) (h : Harder q q') where
  silt_rises : (d d' : ℕ) → d ≤ d' → silt_to q d ≤ silt_to q' d'
  unfolding silt_to
  silt_rises d d' hd = up_mono 100000 (omega arith) (mul-le-mul (mul-le-mul h.silting h.interval) (omega (arith, h.natural)))

  -- so does z4, with the sailing depth and the cut
  pub z4_rises : (c c' : Column) → sailing q c ≤ sailing q' c' → (d d' : ℕ) → d ≤ d' → z4 q c d ≤ z4 q' c' d'
  unfolding z4
  z4_rises c c' hs d d' hd = go (leb (sailing q c) (natural_of q)) (leb (sailing q' c') (natural_of q')) refl refl
    where
      go : (a b : Bool) → leb (sailing q c) (natural_of q) ≡ a → leb (sailing q' c') (natural_of q') ≡ b
          → (ifᵇ a then 0 else silt_to q d) ≤ (ifᵇ b then 0 else silt_to q' d')
      go true b e f = zero-le
      go false true e f = absurd (omega (arith, leb-true, leb-false, h.natural))
      go false false e f = silt_rises d d' hd

  -- by k cm of draft and wave allowance
  sailing_rises : (k : ℕ) → q.draft + q.allowance + k ≤ q'.draft + q'.allowance → (z z' : ℕ) → z ≤ z'
      → sailing_with q z + k ≤ sailing_with q' z'
  unfolding sailing_with
  sailing_rises k hk z z' hz =
      let keel : q.draft * (4 + q.soil) ≤ q'.draft * (4 + q'.soil) = mul-le-mul h.draft (omega arith) in
      omega arith

  module _ (from : 2 ≤ q.speed) where
    squat_harder : (c c' : Column) → column_number c ≤ column_number c' → z3 q c ≤ z3 q' c'
    unfolding z3
    squat_harder c c' hc = lanes_columns_speeds q.lanes q'.lanes c c' q.speed q'.speed h.lanes hc from h.speed

    pub serves_easier : (k : ℕ) → q.draft + q.allowance + k ≤ q'.draft + q'.allowance → (c c' : Column)
        → column_number c ≤ column_number c' → (d : ℕ) → Serves q' c' d → Serves q c (d - k)
    unfolding sailing
    serves_easier k hk c c' hc d v =
        let z : z3 q c ≤ z3 q' c' = squat_harder c c' hc in
        let s : sailing q c + k ≤ sailing q' c' = sailing_rises k hk (z3 q c) (z3 q' c') z in
        let t : z4 q c (d - k) ≤ z4 q' c' d = z4_rises c c' (omega arith) (d - k) d (omega arith) in
        record { entry = omega (arith, v.entry); silt = omega (arith, v.silt); deep = omega (arith, v.deep) }

-- what a column serves, an earlier column of the same stretch serves
pub serves_earlier : (q : Stretch) (c c' : Column) (d : ℕ) → column_number c ≤ column_number c' → Serves q c' d → Serves q c d
serves_earlier q c c' d hc v =
    rw (← (let e : d - 0 ≡ d = omega arith in e))
    (serves_easier q q (as_hard q) (table_speed q c' v.entry) 0 (omega arith) c c' hc d v)
