-- `depth::work_depth` meets its contract: the count is 1 to 3, and the line there is the last try.
use mathlib.Core.Path.{◌≡◌, ap₂, ◌∙◌}
use Rattle.depth.specs.Worksheet.{last_try, tries, answer_of, work_depth}
use Rattle.depth.proofs.walks.Tries.{last_sails}
use Rattle.depth.proofs.walks.Filled.{count_is, reached_is}
use Rattle.depth.proofs.work_depth.Goals as goal

-- the line that was taken is the last try
taken_is : (c : goal.After-last) → c.last.result ≡ last_try (tries c.args.stretch)
taken_is c =
    let q = c.args.stretch in
    let w = c.fill_worksheet-worksheet in
    c.last.ensures ∙ reached_is q _ w.ensures

pub answer_of-requires : goal.answer_of-requires
answer_of-requires c = rw (taken_is c) (last_sails c.args.stretch)

pub returns : goal.returns
unfolding work_depth
returns c =
    let l = c.before in
    c.answer_of.ensures ∙ ap₂ answer_of (taken_is l) (count_is l.args.stretch _ l.fill_worksheet-worksheet.ensures)
