-- `lines::put_last_line` meets its contract: by the form.
use Rattle.lines.specs.Lines.{route_line, both_route_line}
use Rattle.lines.proofs.put_last_line.Goals as goal

pub returns-in-Alone : goal.returns-in-Alone
unfolding route_line
returns-in-Alone c = rw c.in-Alone.is c.put_letter_line.ensures

pub returns-in-Both : goal.returns-in-Both
unfolding both_route_line
returns-in-Both c = rw c.in-Both.is c.put_letter_line-in-Both.ensures
