-- `sheet::bits::join` meets its contract: the same steps as `split`, with the two kinds of groups exchanged.
use mathlib.Core.Path.{◌≡◌, refl, sym, ◌∙◌}
use Prim.Native.Nat.{◌≤◌, ◌<◌, ◌+◌}
use native.Mathlib.Omega.{arith}
use lib.ListN.{length, take, length-set, take-append-drop}
use lib.Seq.{drop-set-lt, length-take-le, get_or-take}
use Rattle.sheet.specs.Bits.{joined, cut}
use Rattle.sheet.specs.Fields.{groups, width, nth}
use Rattle.sheet.specs.Packing.{eight, listed, bytes_of, Narrow}
use Rattle.sheet.specs.Regrouping.{Mid}
use Rattle.sheet.proofs.bits.Regroup.{mid_start, mid_in, mid_set, mid_done, listed_is}
use Rattle.sheet.proofs.bits.Widths.{width_le, starts_eight, starts_width}
use Rattle.sheet.proofs.bits.Steps.{first_lt}
use Rattle.sheet.proofs.bits.Groups.{starts_le}
use Rattle.sheet.proofs.bits.join.Goals.{In-loop-held}
use Rattle.sheet.proofs.bits.join.Goals as goal

pub put-held-requires : goal.put-held-requires
unfolding Narrow
put-held-requires c = (
  c.loop-i.invariant.0.tail.low,
  rw (c.width_of-width.ensures, c.group_at.ensures) (c.requires.narrow c.loop-i.i (omega arith)),
  omega (arith, c.width_of-width.ensures, width_le c.loop-i.i (omega arith)),
)

pub loop-held-init : goal.loop-held-init
unfolding Narrow
loop-held-init c = (
  rw (c.put-held.ensures.0, c.put-held.ensures.1, c.width_of-width.ensures, c.group_at.ensures)
      (mid_in width _ eight _ c.loop-i.i c.loop-i.at _ _ c.loop-i.invariant.0 (c.requires.narrow c.loop-i.i (omega arith))),
  omega (arith, width_le c.loop-i.i (omega arith)),
  record { same = refl; tail = refl },
)

-- a byte that is stored is one of the 28
in_sheet : (c : In-loop-held) → c.loop-held.at < 28
in_sheet c =
    let i = c.loop-i.i in
    omega (arith, starts_eight c.loop-held.at, starts_le width (i + 1) groups (omega arith), starts_width)

pub overflow_cast-place : goal.overflow_cast-place
overflow_cast-place c =
    record { fits = rw c.first.ensures (first_lt c.loop-held.held.bits c.loop-held.held.n 8 c.loop-held.invariant.0.tail.low (omega arith)) }

pub loop-held-preserved : goal.loop-held-preserved
loop-held-preserved c =
    let i = c.loop-i.i in
    let l = in_sheet (goal.at.loop-held-preserved c).In-loop-held in (
      mid_set width _ eight c.loop-held.place (i + 1) c.loop-held.at c.loop-held.held.bits c.loop-held.held.n 8 c.first.result
          c.rest-held.result.bits c.rest-held.result.n c.loop-held.invariant.0 refl (omega arith) (omega arith) c.first.ensures
          c.rest-held.ensures.0 c.rest-held.ensures.1,
      omega arith,
      record { same = rw length-set c.loop-held.invariant.2.same; tail = rw drop-set-lt c.loop-held.invariant.2.tail },
    )

pub returns : goal.returns
unfolding bytes_of
returns c =
    let o = c.loop-i in
    let v = c.args.figures in
    let place = o.place in
    let e : o.i ≡ groups = omega arith in
    let m : Mid width (nth v) eight (nth place) groups o.at o.held.bits o.held.n = rw e at o.invariant.0 in
    let a : o.at ≡ 28 = omega (arith, starts_eight o.at, starts_width, m.place) in
    let m' : Mid width (nth v) eight (nth place) groups 28 o.held.bits o.held.n = rw a at m in
    let l : 28 ≤ length place = omega (arith, c.requires.in_bounds, o.invariant.2.same) in
    let t : take 28 place ≡ listed (cut eight 28 (joined width (nth v) groups)) 0 28 =
    listed_is _ 28 (take 28 place) (length-take-le 28 place l)
    (λ k h. get_or-take 28 place k 0 h
    ∙ mid_done width (nth v) eight (nth place) groups 28 o.held.bits o.held.n m' (starts_width ∙ sym (starts_eight 28)) k h) in
    rw (← t, ← o.invariant.2.tail) (sym (take-append-drop 28 place))

pub loop-i-init : goal.loop-i-init
loop-i-init c = (mid_start _ _ _ _, omega arith, record { same = refl; tail = refl })

pub bounds-place-at : goal.bounds-place-at
bounds-place-at c = let h = in_sheet (goal.at.bounds-place-at c).In-loop-held in omega arith

pub overflow_add-at : goal.overflow_add-at
overflow_add-at c = let h = in_sheet (goal.at.overflow_add-at c).In-loop-held in omega arith
