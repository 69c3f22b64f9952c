-- `worksheet::filling::put_line` meets its contract: the line fits.
use native.Mathlib.Omega.{arith}
use Rattle.lines.proofs.putting.Fitting.{put_within}
use Rattle.typed.proofs.Promises.{line_fits_room}
use Rattle.typed.specs.Lines.{line_bytes, line_text}
use Rattle.worksheet.proofs.filling.put_line.Goals as goal

pub returns : goal.returns
returns c =
    let a = c.args in
    let p = put_within line_bytes (line_text a.row a.figure) a.at a.buffer.now c.requires.1 c.put_line.ensures in
    (p, omega (arith, p.after, line_fits_room a.row a.figure c.requires.0 (omega arith)))
