-- A place for the line, what is worked, the route with its answer, its numbers, its line, its verdict counted.
use Rattle.channel.proofs.Printing.{line_printed}
use Rattle.channel.proofs.sheets.Printer.print_sheet.Goals as goal

pub returns : goal.returns
returns c =
    line_printed _ _ _ _ _ c.worked-worked.result _ _ _ _ _ c.made_ready-ready.ensures c.worked-worked.ensures c.with_sheet-route.ensures
    c.numbers-numbers.ensures c.put_sheet_line-at.ensures.0 c.put_sheet_line-at.ensures.1 c.with_verdict-agreed.ensures
