-- The starred cases compute to their figures.
use mathlib.Core.Path.{◌≡◌, refl}
use mathlib.Core.List.{map}
use Rattle.depth.specs.Squat.{squat_entry}
use Rattle.depth.specs.Depth.{z3, column_of, sailing, sailing_with}
use Rattle.depth.specs.Worksheet.{silt_over, silt, figure, column_try, finding_of, moves_on, walk, tries, answer_of, work_depth}
use Rattle.depth.specs.Starred.{cases, figures}

pub computed : map work_depth cases ≡ figures
unfolding squat_entry z3 column_of sailing sailing_with silt_over silt figure column_try finding_of moves_on walk tries answer_of work_depth
computed = refl
