-- `blanks::figures::put_trimmed` meets its contract: the bytes up to the last that is no space are put.
use mathlib.Core.Path.{sym}
use native.Mathlib.Omega.{arith}
use lib.ListN.{length-take}
use lib.Seq.{length-take-le}
use Rattle.blanks.proofs.meaning.Trimming.{first_bytes}
use Rattle.blanks.proofs.figures.put_trimmed.Goals as goal

pub slice_bounds-put-end : goal.slice_bounds-put-end
slice_bounds-put-end c =
    let word = c.args.word.now in
    sym (length-take-le _ word (first_bytes word _ c.trimmed_length-bytes.ensures).0)

pub returns : goal.returns
returns c =
    let word = c.args.word.now in
    let n = c.trimmed_length-bytes.result in
    let first = first_bytes word n c.trimmed_length-bytes.ensures in
    let short = length-take n word in
    let p = c.put.ensures.put (omega (arith, short)) in
    (rw first.1 at p, omega (arith, p.after, short))
