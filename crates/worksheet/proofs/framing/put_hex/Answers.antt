-- `worksheet::framing::put_hex` meets its contract: the digits of one byte more stand behind those of the bytes passed.
use mathlib.Core.Path.{◌≡◌, refl}
use native.Mathlib.Omega.{arith}
use lib.ListN.{length}
use lib.Seq.{take_all}
use Rattle.worksheet.proofs.framing.Hex.{no_digits, one_more}
use Rattle.worksheet.proofs.framing.put_hex.Goals as goal

pub loop-byte-init : goal.loop-byte-init
loop-byte-init c = (refl, omega arith, no_digits c.args.bytes.now)

pub loop-byte-preserved : goal.loop-byte-preserved
loop-byte-preserved c =
    let l = c.loop-byte in
    (omega arith, omega arith, one_more c.args.bytes.now l.byte-index (omega arith) l.invariant.2 c.put_byte-end.ensures.0 (omega arith))

pub returns : goal.returns
returns c =
    let l = c.loop-byte in
    let bytes = c.args.bytes.now in
    let e : l.byte-index ≡ length bytes = omega arith in
    (rw (take_all (length bytes) bytes (omega arith)) at (rw e at l.invariant.2), omega arith)
