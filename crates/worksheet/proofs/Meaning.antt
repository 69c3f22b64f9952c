-- What a page shows: all tries in their order, items that add up to the tenths of the width, and the figures of the answer or its refusal.
-- By what the design is worked from.
use Rattle.std.specs.Prelude.{Result, Ok, Err}
use mathlib.Core.Path.{◌≡◌, refl, sym, ap}
use mathlib.Core.Bool.{Bool, true, false}
use mathlib.Core.List.{List, [], ◌∷◌, ◌++◌}
use Prim.Native.Nat.{ℕ, ◌+◌, ◌≤◌}
use native.Mathlib.Omega.{arith}
use borrow.Author.Tests.{ltb-true, ltb-false}
use lib.Dec.{ltb}
use lib.ListN.{length, take}
use Rattle.laws.specs.Choice.{ifᵇ◌then◌else◌}
use Rattle.blanks.specs.declared.Figure.TheVariants.{Count, Signed}
use Rattle.depth.specs.Worksheet.{tries, blank_try, worksheet_of}
use Rattle.depth.specs.declared.DepthFigures.{DepthFigures}
use Rattle.depth.specs.declared.Stretch.{Stretch}
use Rattle.depth.specs.declared.Try.{Try}
use Rattle.depth.proofs.Promises.{columns_one_to_three}
use Rattle.design.specs.Answers.{WorkedFrom}
use Rattle.design.specs.Design.{depth_stretch, design_at}
use Rattle.design.specs.declared.Figures.{Figures}
use Rattle.design.specs.declared.Reason.{Reason}
use Rattle.gauge.specs.declared.LevelSteps.{LevelSteps}
use Rattle.lanes.specs.declared.Lanes.{Lanes}
use Rattle.lanes.specs.declared.Lanes.TheVariants.{One, Two}
use Rattle.sheet.specs.Sheets.{figures_of, read_of}
use Rattle.sheet.specs.declared.ReadFault.{ReadFault}
use Rattle.sheet.specs.declared.Sheet.{Sheet}
use Rattle.width.specs.Width.{tenths_of}
use Rattle.width.specs.declared.Items.{Items}
use Rattle.worksheet.specs.Depths.{tries_from, tries_text, depth_head, depth_part}
use Rattle.worksheet.specs.Filling.{with}
use Rattle.worksheet.specs.Framing.{head_text, end_text}
use Rattle.worksheet.specs.Pages.{sized_text, sizes_text, answered_parts, refused_parts, sheet_parts, page_text}
use Rattle.worksheet.specs.Refusals.{no_sheet_text}
use Rattle.worksheet.specs.Routes.{greater_of}
use Rattle.worksheet.specs.Rows.{rows_part}
use Rattle.worksheet.specs.Widths.{nine_tenths, between_tenths}
use Rattle.datum.specs.declared.Level.{Level}
use Rattle.gauge.specs.declared.LevelFault.{LevelFault}

-- the tries of a worksheet, blank ones aside
first_of_three : (l : List Try) → length l ≤ 3 → take (length l) (take 3 (l ++ (blank_try ∷ blank_try ∷ []))) ≡ l
first_of_three [] h = refl
first_of_three (t ∷ []) h = refl
first_of_three (t ∷ (u ∷ [])) h = refl
first_of_three (t ∷ (u ∷ (v ∷ []))) h = refl
first_of_three (t ∷ (u ∷ (v ∷ (w ∷ l)))) h = absurd (omega arith)

pub tries_shown : (q : Stretch) (knots : ℕ) → tries_text (worksheet_of q) knots ≡ tries_from 1 (tries q) knots
unfolding tries_text worksheet_of
tries_shown q knots = ap (λ (l : List Try). tries_from 1 l knots) (first_of_three (tries q) (columns_one_to_three q).1)

-- the nine items, once or twice, the banks, and what two lanes need between them
pub items_sum : (lanes : Lanes) (i : Items) → (nine_tenths i lanes + i.banks) + between_tenths lanes i ≡ tenths_of lanes i
unfolding nine_tenths tenths_of
items_sum One i = omega arith
items_sum Two i = omega arith

-- of a sheet that is answered
module _ (s : Sheet) (read : Result Level LevelFault) (f : Figures) (w : WorkedFrom s read f) where
  abbrev stretch : Stretch
  stretch = depth_stretch s f.level f.lanes

  abbrev depth : DepthFigures
  depth = record { cut = f.cut; sailing = f.sailing; columns = f.columns }

  pub depth_shown : depth_part stretch f.level
      ≡ (depth_head stretch ++ tries_from 1 (tries stretch) s.speed)
      ++ with "  cut %0   sailing depth s %0   datum depth %0 below chart datum\n" (Count f.cut.0 ∷ Count f.sailing.0 ∷ Signed f.datum.0 ∷ [])
  unfolding depth_part
  depth_shown = rw (tries_shown stretch s.speed, w.depth_worked, w.datum_worked)

  pub tries_counted : length (tries stretch) ≡ f.columns
  unfolding worksheet_of
  tries_counted = sym w.columns_tried

  pub sizes_shown : sizes_text s f.level f.lanes
      ≡ depth_part stretch f.level ++ sized_text s f.level f.lanes w.entries depth
  unfolding sizes_text
  sizes_shown = rw (w.entered, w.depth_worked)

-- the page of a sheet, by what its design comes to
module _ (index : ℕ) (name bytes : List ℕ) (steps : LevelSteps) (s : Sheet) (r : read_of bytes ≡ Ok s) where
  pub page_answered : (f : Figures) → design_at bytes steps.read ≡ Ok f
      → page_text index name bytes steps ≡ (head_text index name ++ (rows_part (figures_of s) ++ answered_parts s steps f)) ++ end_text bytes
  unfolding page_text sheet_parts
  page_answered f d = rw (r, d)

  pub page_refused : (reason : Reason) → design_at bytes steps.read ≡ Err reason
      → page_text index name bytes steps ≡ (head_text index name ++ (rows_part (figures_of s) ++ refused_parts s steps reason)) ++ end_text bytes
  unfolding page_text sheet_parts
  page_refused reason d = rw (r, d)

pub page_unread : (index : ℕ) (name bytes : List ℕ) (steps : LevelSteps) (fault : ReadFault) → read_of bytes ≡ Err fault
    → page_text index name bytes steps ≡ (head_text index name ++ no_sheet_text fault (length bytes)) ++ end_text bytes
unfolding page_text
page_unread index name bytes steps fault r = rw r

-- the greater of two figures, by the test
pub greater_is : (one other : ℕ) → (one ≤ greater_of one other) × (other ≤ greater_of one other) × (((greater_of one other ≡ one) → ⊥) → greater_of one other ≡ other)
unfolding greater_of
greater_is one other = go (ltb one other) refl
  where
    go : (b : Bool) → ltb one other ≡ b
        → (one ≤ (ifᵇ b then other else one)) × (other ≤ (ifᵇ b then other else one)) × ((((ifᵇ b then other else one) ≡ one) → ⊥) → (ifᵇ b then other else one) ≡ other)
    go true e = (omega (arith, ltb-true one other e), omega arith, λ no_one. refl)
    go false e = (omega arith, omega (arith, ltb-false one other e), λ no_one. absurd (no_one refl))
