-- Each turn takes the first sheet of what is left.
use mathlib.Core.Path.{sym, ◌∙◌}
use Rattle.std.specs.Slice.Iter.{chunks_rest}
use Rattle.channel.specs.Worksheets.{progress}
use Rattle.channel.proofs.Bundles.{bundles, one_unnamed}
use Rattle.channel.proofs.Taking.{sheet_more, no_bytes}
use Rattle.channel.proofs.worksheets.Putting.put_bytes.Goals as goal

pub loop-sheet-preserved : goal.loop-sheet-preserved
loop-sheet-preserved c =
    let l = c.loop-sheet in
    let a = c.args in
    let step = c.in-Some.ensures.steps in record {
      size = step.0 ∙ l.invariant.size;
      all =
          sheet_more (bundles a.self.pass a.self.steps) (chunks_rest l.sheet-iterator) c.in-Some.sheet.now (chunks_rest c.next.new.self) (progress l.now l.buffer) _
          step.1.0 (rw l.invariant.size at step.1.1) step.1.2 (c.put_unnamed-now.ensures ∙ one_unnamed a.self.pass a.self.steps _ (progress l.now l.buffer))
          ∙ l.invariant.all;
    }

pub returns : goal.returns
returns c =
    let l = c.loop-sheet in
    let a = c.args in
    sym (no_bytes (bundles a.self.pass a.self.steps) (chunks_rest l.sheet-iterator) (progress l.now l.buffer) c.in-None.ensures.steps.1.0) ∙ l.invariant.all
