-- Where only beam, wind, currents and wave are moved, the depth is worked from the same figures, and the width is that of a harder stretch.
use Rattle.std.specs.Prelude.{Result}
use mathlib.Core.Path.{◌≡◌, refl, sym, ap, ap₂, subst, subst⁻¹, ◌∙◌}
use mathlib.Core.List.{List}
use Prim.Native.Nat.{ℕ, ◌≤◌}
use lib.Dec.{le→leb}
use lib.Signed.{◌≤ℤ◌}
use Rattle.laws.specs.Extremes.{Least}
use Rattle.laws.proofs.Extremes.{least_only}
use Rattle.datum.specs.declared.BelowLevel.{BelowLevel}
use Rattle.sheet.specs.Sheets.{sheet_of}
use Rattle.sheet.specs.declared.Sheet.{Sheet}
use Rattle.lanes.specs.declared.Lanes.{Lanes}
use Rattle.depth.specs.Depth.{sailing, own_column, Meets}
use Rattle.depth.specs.declared.Stretch.{Stretch as DepthStretch}
use Rattle.width.specs.Bands.{entries_of}
use Rattle.width.specs.Refusals.{entries_number}
use Rattle.width.specs.Width.{width_figure}
use Rattle.width.specs.Comparing.{changed, Harder as HarderWidth}
use Rattle.width.specs.declared.Stretch.{Stretch as WidthStretch}
use Rattle.width.proofs.Refusals.{entries_exactly}
use Rattle.width.proofs.Promises.{harder_never_narrower, figure_no_less}
use Rattle.design.specs.Design.{width_stretch, lanes_for}
use Rattle.design.specs.Refusals.{sheet_in, level_in, EntryMissing}
use Rattle.design.specs.Answers.{stretch_of, FiguresAre}
use Rattle.design.specs.Harder.{width}
use Rattle.design.specs.declared.Figures.{Figures}
use Rattle.design.proofs.harder.Compared.{widens, Compared}
use Rattle.width.specs.declared.WidthFault.{WidthFault}
use Rattle.width.specs.declared.Entries.{Entries}

-- what a width is worked from beside its entries, apart from beam, wind and along current
stretch_same : (s s' : Sheet) {l l' : Lanes} {z z' : BelowLevel} → s.draft ≡ s'.draft → s.ships ≡ s'.ships
    → s.handling ≡ s'.handling → s.aids ≡ s'.aids → s.bottom ≡ s'.bottom → s.cargo ≡ s'.cargo
    → s.left ≡ s'.left → s.right ≡ s'.right → l ≡ l' → z ≡ z'
    → width_stretch s' l' z' ≡ changed (width_stretch s l z) s'.beam s'.wind s'.along
stretch_same s s' draft ships handling aids bottom cargo left right lanes sailing =
    rw (draft, ships, handling, aids, bottom, cargo, left, right, lanes, sailing)

-- the width, where only the five that it grows with are moved
module _ (easy hard table : List ℕ) (lanes : lanes_for (sheet_in easy) ≡ lanes_for (sheet_in hard)) (c : Compared widens easy hard)
    (level : level_in (sheet_in easy) table ≡ level_in (sheet_in hard) table) where
  abbrev q : DepthStretch
  q = stretch_of (sheet_in easy) (level_in (sheet_in easy) table)

  abbrev q' : DepthStretch
  q' = stretch_of (sheet_in hard) (level_in (sheet_in hard) table)

  depth_same : q ≡ q'
  unfolding sheet_of
  depth_same =
      let draft = c.same 2 refl in
      let length = c.same 3 refl in
      let speed = c.same 5 refl in
      let bed = c.same 6 refl in
      let soil = c.same 7 refl in
      let allowance = c.same 8 refl in
      let silting = c.same 9 refl in
      let interval = c.same 10 refl in
      cc

  module _ (f g : Figures) (are : FiguresAre (sheet_in easy) (level_in (sheet_in easy) table) f)
      (are' : FiguresAre (sheet_in hard) (level_in (sheet_in hard) table) g) where
    abbrev held : ℕ → BelowLevel
    held cm = record { 0 = cm }

    sailing_same : f.sailing ≡ g.sailing
    sailing_same =
        let cuts : f.cut.0 ≡ g.cut.0 =
        least_only (Meets q') f.cut.0 g.cut.0 (subst (λ (p : DepthStretch). Least (Meets p) f.cut.0) depth_same are.cut) are'.cut in
        ap held
        (are.sailing_depth ∙ ap₂ (λ (p : DepthStretch) (d : ℕ). sailing p (own_column p d)) depth_same cuts ∙ sym are'.sailing_depth)

    abbrev w : WidthStretch
    w = width_stretch (sheet_in easy) (lanes_for (sheet_in easy)) f.sailing

    abbrev w' : WidthStretch
    w' = width_stretch (sheet_in hard) (lanes_for (sheet_in hard)) g.sailing

    others_same : w' ≡ changed w w'.beam w'.wind w'.along
    unfolding sheet_of
    others_same =
        stretch_same (sheet_in easy) (sheet_in hard) (c.same 2 refl) (c.same 13 refl) (c.same 15 refl)
        (c.same 20 refl) (c.same 21 refl) (c.same 22 refl)
        (c.same 23 refl) (c.same 24 refl) lanes sailing_same

    width_harder : HarderWidth w w'
    unfolding sheet_of
    width_harder =
        record {
          beam = c.rises 4 refl;
          wind = c.rises 16 refl;
          along = c.rises 18 refl;
          equal = others_same;
        }

    abbrev found : Result Entries WidthFault
    found = entries_of (sheet_in easy).water (sheet_in easy).speed (sheet_in easy).cross (sheet_in easy).wave

    abbrev found' : Result Entries WidthFault
    found' = entries_of (sheet_in hard).water (sheet_in hard).speed (sheet_in hard).cross (sheet_in hard).wave

    figures_rise : entries_number found' ≡ 0 → width_figure w found ≤ width_figure w' found'
    unfolding sheet_of
    figures_rise has =
        let s = sheet_in easy in
        let s' = sheet_in hard in
        subst⁻¹ (λ (n : ℕ). n ≤ width_figure w' found')
        (ap₂ (λ (water speed : ℕ). width_figure w (entries_of water speed s.cross s.wave)) (c.same 14 refl) (c.same 5 refl))
        (figure_no_less w w' _ _
        (harder_never_narrower w w' s'.water s'.speed s.cross s'.cross s.wave s'.wave width_harder (c.rises 17 refl) (c.rises 19 refl)) has)

    pub width_rises : ¬ EntryMissing (sheet_in hard) → width f ≤ℤ width g
    width_rises there =
        let s = sheet_in hard in
        let has = (entries_exactly s.water s.speed s.cross s.wave).else_answered.1 (there, tt) in
        rw (are.width, are'.width) (record { le = le→leb _ _ (figures_rise has) })
