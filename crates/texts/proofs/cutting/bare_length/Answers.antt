-- `texts::cutting::bare_length` meets its contract: a line that ends in a carriage return, and any other.
use mathlib.Core.Path.{refl, sym, ◌∙◌}
use native.Mathlib.Omega.{arith}
use lib.ListN.{length}
use lib.Seq.{take_all}
use Rattle.texts.proofs.cutting.Lines.{bare_cut, bare_kept}
use Rattle.texts.proofs.cutting.bare_length.Goals as goal

pub returns-then-ends_with : goal.returns-then-ends_with
returns-then-ends_with c =
    let e = bare_cut c.args.line.now (sym c.ends_with.ensures.value ∙ c.if-ends_with.true) in (sym e.1, sym e.0, omega arith)

pub returns : goal.returns
returns c =
    let line = c.args.line.now in
    let e = bare_kept line (sym c.ends_with.ensures.value ∙ c.if-ends_with.false) in
    rw e (refl, take_all (length line) line (omega arith), omega arith)
