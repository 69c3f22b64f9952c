-- The numbers of a depth (section 16.2).
use Rattle.std.specs.Prelude.{List, [], ◌∷◌, ℕ, Result, Ok, Err}
use Rattle.depth.specs.Depth.{depth_fault_number}
use Rattle.engine.specs.declared.PlainFigures.{PlainFigures}
use Rattle.depth.specs.declared.DepthFault.{DepthFault}

-- how many there are
abbrev pub plain_count : ℕ
plain_count = 3

-- its refusal, 0 where it has a cut, its sailing depth and its cut
abbrev pub plain_numbers : Result PlainFigures DepthFault → List ℕ
plain_numbers (Ok f) = 0 ∷ f.sailing.0 ∷ f.cut.0 ∷ []
plain_numbers (Err fault) = depth_fault_number fault ∷ 0 ∷ 0 ∷ []
