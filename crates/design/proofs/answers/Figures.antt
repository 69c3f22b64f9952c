-- A sheet has one row of figures at a level: the cut is the only least one, and the others follow from it and the sheet.
use mathlib.Core.Path.{◌≡◌, sym, ap, ◌∙◌}
use Prim.Native.Nat.{ℕ}
use lib.IntN.{ℤ, pos}
use Rattle.laws.proofs.Extremes.{least_only}
use Rattle.datum.specs.Datum.{below, datum_depth}
use Rattle.datum.specs.declared.Level.{Level}
use Rattle.datum.specs.declared.BelowChart.{BelowChart}
use Rattle.sheet.specs.declared.Sheet.{Sheet}
use Rattle.lanes.specs.declared.Lanes.{Lanes}
use Rattle.depth.specs.Depth.{sailing, own_column, Meets}
use Rattle.width.specs.Bands.{entries_of}
use Rattle.width.specs.Width.{width_figure}
use Rattle.class.specs.Classes.{width_class, depth_class}
use Rattle.class.specs.declared.Classes.{Classes}
use Rattle.design.specs.Design.{width_stretch, lanes_for}
use Rattle.design.specs.Answers.{stretch_of, FiguresAre}
use Rattle.design.specs.declared.Figures.{Figures}

-- the width of a sheet at a sailing depth
abbrev width_at : Sheet → ℕ → ℕ
width_at s sailing = width_figure (width_stretch s (lanes_for s) (below sailing)) (entries_of s.water s.speed s.cross s.wave)

-- figures by their parts
abbrev classed : ℕ → ℕ → ℕ → Classes
classed ship width depth = record { ship = ship; width = width; depth = depth }

abbrev made : Level → Lanes → ℕ → ℕ → BelowChart → ℤ → ℤ → ℕ → Classes → Figures
made level lanes sailing cut datum width widening columns classes =
    record {
      level = level;
      lanes = lanes;
      sailing = below sailing;
      cut = below cut;
      datum = datum;
      width = width;
      widening = widening;
      columns = columns;
      classes = classes;
    }

-- figures whose parts are equal are equal
same_parts : (f g : Figures) → f.level ≡ g.level → f.lanes ≡ g.lanes → f.sailing.0 ≡ g.sailing.0 → f.cut.0 ≡ g.cut.0
    → f.datum ≡ g.datum → f.width ≡ g.width → f.widening ≡ g.widening → f.columns ≡ g.columns → f.classes ≡ g.classes
    → f ≡ g
same_parts f g level lanes sailing cut datum width widening columns classes =
    let same : made f.level f.lanes f.sailing.0 f.cut.0 f.datum f.width f.widening f.columns f.classes
    ≡ made g.level g.lanes g.sailing.0 g.cut.0 g.datum g.width g.widening g.columns g.classes = cc in
    same

same_classes : (c d : Classes) → c.ship ≡ d.ship → c.width ≡ d.width → c.depth ≡ d.depth → c ≡ d
same_classes c d ship width depth =
    let same : classed c.ship c.width c.depth ≡ classed d.ship d.width d.depth = cc in
    same

pub figures_only : (s : Sheet) (level : Level) (f g : Figures) → FiguresAre s level f → FiguresAre s level g → f ≡ g
figures_only s level f g a b =
    let q = stretch_of s level in
    let cut : f.cut.0 ≡ g.cut.0 = least_only (Meets q) f.cut.0 g.cut.0 a.cut b.cut in
    let deep : f.sailing.0 ≡ g.sailing.0 =
    a.sailing_depth ∙ ap (λ (d : ℕ). sailing q (own_column q d)) cut ∙ sym b.sailing_depth in
    same_parts f g (a.level ∙ sym b.level) (a.lanes ∙ sym b.lanes) deep cut
    (a.datum_depth_is ∙ ap (λ (d : ℕ). datum_depth (below d) level) cut ∙ sym b.datum_depth_is)
    (a.width ∙ ap (λ (d : ℕ). pos (width_at s d)) deep ∙ sym b.width) (a.widening ∙ sym b.widening) (a.columns ∙ sym b.columns)
    (same_classes f.classes g.classes (a.ship_class_is ∙ sym b.ship_class_is)
    (a.width_class_is ∙ ap (λ (d : ℕ). width_class (lanes_for s) (width_at s d)) deep ∙ sym b.width_class_is)
    (a.depth_class_is ∙ ap (λ (d : ℕ). depth_class (below d)) deep ∙ sym b.depth_class_is))
