-- `worksheet::framing::put_name` meets its contract: nothing, or spaces and the bytes that are shown.
use mathlib.Core.Path.{◌∙◌, sym}
use native.Mathlib.Omega.{arith}
use lib.ListN.{take, length-map}
use lib.Seq.{length-take-le}
use Rattle.texts.specs.Messages.{shown}
use Rattle.lines.proofs.putting.Placing.{put_none, put_on}
use Rattle.worksheet.specs.Framing.{name_end, name_text}
use Rattle.worksheet.proofs.framing.put_name.Goals as goal

pub returns-then-is_empty : goal.returns-then-is_empty
unfolding name_text
returns-then-is_empty c = rw (sym c.is_empty.ensures ∙ c.if-is_empty.true) (put_none, omega arith)

pub slice_bounds-put_visible-end : goal.slice_bounds-put_visible-end
slice_bounds-put_visible-end c = sym (length-take-le c.name_end-end.result c.args.name.now c.name_end-end.ensures.1.1)

pub put_visible-requires : goal.put_visible-requires
put_visible-requires c = omega (arith, length-take-le c.name_end-end.result c.args.name.now c.name_end-end.ensures.1.1)

pub returns : goal.returns
unfolding name_text
returns c =
    let visible = rw c.name_end-end.ensures.0 at c.put_visible.ensures.0 in
    let name = c.args.name.now in
    let short = length-take-le (name_end name) name (omega arith) in
    rw (sym c.is_empty.ensures ∙ c.if-is_empty.false) (put_on (c.put-from.ensures.put (omega arith)) visible (omega arith), omega (arith, short, length-map (take (name_end name) name) shown))
