-- `texts::cutting::line_end` meets its contract. The loop's invariant: the bytes passed are of the line.
use mathlib.Core.Path.{◌≡◌, ap}
use native.Mathlib.Omega.{arith}
use borrow.Author.Rules.{part_to_end}
use lib.ListN.{length, drop, length-drop, drop_of_length-le}
use Rattle.texts.specs.Cutting.{line_of}
use Rattle.texts.proofs.cutting.Lines.{line_over, line_on, line_none}
use Rattle.texts.proofs.cutting.line_end.Goals as goal

pub returns-then-byte-eq-NEWLINE : goal.returns-then-byte-eq-NEWLINE
returns-then-byte-eq-NEWLINE c =
    let l = c.loop-before in
    let text = c.args.text.now in
    let rest = drop c.args.from text in
    let sized = ap length (part_to_end text c.args.from) in
    let here = rw (part_to_end text c.args.from) at c.if-byte-eq-NEWLINE.true in
    let e : length (line_of (drop l.before rest)) ≡ 0 = rw (line_over rest l.before (omega (arith, sized)) here) in
    (omega (arith, l.invariant), omega (arith, sized, length-drop c.args.from text))

pub loop-before-preserved : goal.loop-before-preserved
loop-before-preserved c =
    let l = c.loop-before in
    let text = c.args.text.now in
    let rest = drop c.args.from text in
    let sized = ap length (part_to_end text c.args.from) in
    let here = rw (part_to_end text c.args.from) at c.if-byte-eq-NEWLINE.false in
    let e = line_on rest l.before (omega (arith, sized)) here in
    omega (arith, l.invariant)

pub returns : goal.returns
returns c =
    let l = c.loop-before in
    let text = c.args.text.now in
    let rest = drop c.args.from text in
    let sized = ap length (part_to_end text c.args.from) in
    let e : length (line_of (drop l.before rest)) ≡ 0 = rw (drop_of_length-le rest {i = l.before} (omega (arith, sized)), line_none) in
    (omega (arith, l.invariant, sized, length-drop c.args.from text), omega arith)
