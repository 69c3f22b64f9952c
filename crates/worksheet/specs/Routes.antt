-- The pages of the route: its stretches in a table, and the end (section 15.13).
use Rattle.std.specs.Prelude.{ℕ, ◌+◌, ◌-◌, ◌/◌, ◌%◌, List, [], ◌∷◌, ◌++◌, Result, Ok, Err}
use Rattle.laws.specs.Choice.{ifᵇ◌then◌else◌, ◌<ᵇ◌, ◌=ᵇ◌}
use Rattle.blanks.specs.declared.Figure.{Figure}
use Rattle.blanks.specs.declared.Figure.TheVariants.{Count, Signed, Nothing}
use Rattle.design.specs.Numbers.{code_of}
use Rattle.design.specs.declared.Figures.{Figures}
use Rattle.lanes.specs.Lanes.{lane_count}
use Rattle.worksheet.specs.Filling.{with, level_figure, unsigned_of}
use Rattle.worksheet.specs.Framing.{signature_text}
use Rattle.worksheet.specs.declared.Greatest.{Greatest}
use Rattle.worksheet.specs.declared.Readings.{Readings}
use Rattle.worksheet.specs.declared.Totals.{Totals}
use Rattle.design.specs.declared.Reason.{Reason}

-- before the first stretch, and with one more that is answered
abbrev pub none_yet : Greatest
none_yet = record { cut = 0; width = 0 }

unfoldable pub greater_of : ℕ → ℕ → ℕ
greater_of one other = ifᵇ one <ᵇ other then other else one

unfoldable pub with_figures : Greatest → Figures → Greatest
with_figures g f = record { cut = greater_of g.cut f.cut.0; width = greater_of g.width (unsigned_of f.width) }

abbrev pub with_stretch : Greatest → Result Figures Reason → Greatest
with_stretch g (Ok f) = with_figures g f
with_stretch g (Err reason) = g

-- the head of a page
unfoldable pub route_head : ℕ → List ℕ
route_head page =
    with "CHANNEL WORKSHEET   the route, page %0\n\n  sheet  code   level  lanes   cut  datum    width  widening  class\n" (Count page ∷ [])

-- a new page after every fiftieth line: a form feed and its head
unfoldable pub new_page : ℕ → List ℕ
new_page index =
    ifᵇ index <ᵇ 2 then [] else (ifᵇ (index - 1) % 50 =ᵇ 0 then 12 ∷ route_head ((index - 1) / 50 + 1) else [])

-- the line of a stretch that is answered
unfoldable pub answered_line : ℕ → Figures → List ℕ
answered_line index f =
    with "%7  %4  %6  %5" (Count index ∷ Count 0 ∷ level_figure f.level ∷ Count (lane_count f.lanes) ∷ [])
    ++ with "  %4  %5  %7  %8  %5\n"
    (Count f.cut.0 ∷ Signed f.datum.0 ∷ Signed f.width ∷ Signed f.widening ∷ Count f.classes.ship ∷ [])

-- the line of a stretch
abbrev pub line_by : ℕ → Result Figures Reason → List ℕ
line_by index (Ok f) = answered_line index f
line_by index (Err reason) = with "%7  %4  refused\n" (Count index ∷ Count (code_of (Err reason)) ∷ [])

unfoldable pub stretch_text : ℕ → Result Figures Reason → List ℕ
stretch_text index answer = new_page index ++ line_by index answer

-- a greatest figure, where a stretch is answered
unfoldable pub greatest_figure : ℕ → ℕ → Figure
greatest_figure answered figure = ifᵇ answered =ᵇ 0 then Nothing else Count figure

-- the end of the route
unfoldable pub foot_text : Totals → Greatest → Readings → List ℕ
foot_text t g r =
    ((with "\n  sheets %0, answered %0, class of the route %0\n" (Count t.sheets ∷ Count t.answered ∷ Count t.class ∷ [])
    ++ with "  greatest cut %0 cm, greatest width %0 cm\n" (greatest_figure t.answered g.cut ∷ greatest_figure t.answered g.width ∷ []))
    ++ with "  record: readings added %0, missing %0, refused %0\n" (Count r.added ∷ Count r.missing ∷ Count r.refused ∷ []))
    ++ signature_text
