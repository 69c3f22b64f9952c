-- `texts::messages::put_seen` meets its contract. The loop's invariant: the bytes passed stand, as they are shown.
use Prim.Native.Nat.{◌+◌}
use mathlib.Core.Path.{◌≡◌}
use mathlib.Core.List.{[], ◌∷◌, ◌++◌, map-append}
use native.Mathlib.Numerals.{add-one}
use native.Mathlib.Nat.{add-zero}
use native.Mathlib.Omega.{arith}
use lib.ListN.{length, take, get_or}
use lib.Seq.{take-suc, take-length}
use Rattle.lines.proofs.putting.Placing.{put_none, then_byte}
use Rattle.texts.specs.Messages.{shown}
use Rattle.texts.proofs.messages.put_seen.Goals as goal

pub loop-j-init : goal.loop-j-init
loop-j-init c = rw (add-zero c.args.at) put_none

pub loop-j-preserved : goal.loop-j-preserved
loop-j-preserved c =
    let a = c.args in
    let l = c.loop-j in
    let bytes = a.bytes.now in
    let e : a.at + (l.j + 1) ≡ (a.at + l.j) + 1 = omega arith in
    let more : take (l.j + 1) bytes ≡ take l.j bytes ++ get_or bytes l.j 0 ∷ [] = rw (add-one l.j) (take-suc bytes l.j 0 (omega arith)) in
    rw (e, more, map-append, c.shown_byte.ensures) (then_byte (shown (get_or bytes l.j 0)) l.invariant (omega arith))

pub returns : goal.returns
returns c =
    let l = c.loop-j in
    let bytes = c.args.bytes.now in
    let e : l.j ≡ length bytes = omega arith in
    (rw (take-length bytes) at (rw e at l.invariant), omega arith)
