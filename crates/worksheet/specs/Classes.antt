-- The three classes, each with the limit passed and the next one (section 15.11).
use Rattle.std.specs.Prelude.{ℕ, List, [], ◌∷◌, ◌++◌}
use Rattle.blanks.specs.declared.Figure.{Figure}
use Rattle.blanks.specs.declared.Figure.TheVariants.{Count}
use Rattle.class.specs.Classes.{ship_limits, width_limits, depth_limits}
use Rattle.class.specs.declared.Limits.{Limits}
use Rattle.design.specs.declared.Figures.{Figures}
use Rattle.worksheet.specs.Filling.{with, count_or_none, unsigned_of}

-- a figure, its class, the limit passed and the next one
abbrev pub class_figures : ℕ → ℕ → Limits → List Figure
class_figures figure class limits = Count figure ∷ Count class ∷ count_or_none limits.passed ∷ count_or_none limits.next ∷ []

unfoldable pub classes_part : ℕ → Figures → List ℕ
classes_part deadweight f =
    (with "CLASSES     figure  class    passed      next\n  ship    %8  %5  %8  %8 t\n"
    (class_figures deadweight f.classes.ship (ship_limits deadweight))
    ++ with "  width   %8  %5  %8  %8 cm\n"
    (class_figures (unsigned_of f.width) f.classes.width (width_limits f.lanes (unsigned_of f.width))))
    ++ with "  depth   %8  %5  %8  %8 cm\n" (class_figures f.sailing.0 f.classes.depth (depth_limits f.sailing))
