-- `worksheet::filling::put_worded` meets its contract: there is room for the text.
use borrow.Author.Rules.{rules}
use Rattle.blanks.proofs.Promises.{filled_put}
use Rattle.worksheet.proofs.filling.put_worded.Goals as goal

pub returns : goal.returns
returns c =
    let e = c.put_filled.ensures in
    (filled_put _ _ _ _ _ _ _ (search rules) e.0 e.1, e.2)
