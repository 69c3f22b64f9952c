-- `typed::printing::put_hundredths` meets its contract: the count of whole ones, the point, the two digits behind it.
use native.Mathlib.Omega.{arith}
use lib.ListN.{length-set}
use Rattle.typed.proofs.printing.Figures.{hundredths_stand}
use Rattle.typed.proofs.printing.put_hundredths.Goals as goal

pub returns : goal.returns
returns c =
    let p = c.put_count-point.ensures.put (omega arith) in
    (hundredths_stand _ p (omega arith), omega arith)

pub bounds-buffer-point-2 : goal.bounds-buffer-point-2
bounds-buffer-point-2 c = simp length-set (omega arith)

pub bounds-buffer-point-3 : goal.bounds-buffer-point-3
bounds-buffer-point-3 c = simp length-set (omega arith)
