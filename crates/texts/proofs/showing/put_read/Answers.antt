-- `texts::showing::put_read` meets its contract: the rows of a sheet, or the line of bytes that are none.
use Rattle.texts.proofs.showing.put_read.Goals as goal

pub returns-in-Ok : goal.returns-in-Ok
returns-in-Ok c = rw c.in-Ok.is (rw c.figures_of.ensures at c.put_rows.ensures)

pub returns-in-Err : goal.returns-in-Err
returns-in-Err c = rw c.in-Err.is c.put_refused.ensures
