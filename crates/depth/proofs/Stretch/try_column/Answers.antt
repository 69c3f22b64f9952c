-- `depth::Stretch::try_column` meets its contract: each part is the definition's, of the parts before it.
use Rattle.depth.proofs.walks.Tries.{line_is}
use Rattle.depth.proofs.Stretch.try_column.Goals as goal

pub returns : goal.returns
returns c =
    let a = c.args in
    line_is a.self a.column _ _ _ _ c.squat_of-squat.ensures
    c.sailing_depth-sailing.ensures.0 c.silt_over-silt.ensures.0 c.column_of-falls_in.ensures
