-- `worksheet::routes::put_foot` meets its contract: three texts and the line to sign, one behind another.
use native.Mathlib.Omega.{arith}
use Rattle.lines.proofs.putting.Placing.{put_on}
use Rattle.worksheet.specs.Routes.{foot_text}
use Rattle.worksheet.proofs.routes.put_foot.Goals as goal

pub returns : goal.returns
unfolding foot_text
returns c =
    let sheets = rw c.from.ensures at c.put-sheets.ensures.0 in
    let most = rw (c.greatest_figure.ensures, c.from-2.ensures, c.greatest_figure-2.ensures) at c.put-most.ensures.0 in
    let readings = c.put-record.ensures.0 in
    let enough = c.requires in
    let first = c.put-sheets.ensures.1 in
    let second = c.put-most.ensures.1 in
    let third = c.put-record.ensures.1 in
    (put_on (put_on (put_on sheets most (omega arith)) readings (omega arith)) c.put_signature.ensures.0 (omega arith), omega arith)
