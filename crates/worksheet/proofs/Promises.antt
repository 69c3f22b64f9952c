-- What the worksheet promises (section 15): every figure on a page is of a call of a room, put there by the decimals of `lines`, since `page_text` of
-- specs/Pages.antt, which `put_page` ensures, is made of nothing else.
use Rattle.std.specs.Prelude.{Result, Ok, Err}
use mathlib.Core.Path.{◌≡◌}
use mathlib.Core.List.{List, [], ◌∷◌, ◌++◌}
use Prim.Native.Nat.{ℕ, ◌+◌, ◌≤◌}
use lib.ListN.{length}
use Rattle.laws.proofs.Unique.{one_answer}
use Rattle.blanks.specs.declared.Figure.TheVariants.{Count, Signed}
use Rattle.depth.specs.Worksheet.{tries, worksheet_of}
use Rattle.depth.specs.declared.Stretch.{Stretch}
use Rattle.design.specs.Answers.{WorkedFrom}
use Rattle.design.specs.Design.{depth_stretch, design_at}
use Rattle.design.specs.declared.Figures.{Figures}
use Rattle.design.specs.declared.Reason.{Reason}
use Rattle.gauge.specs.declared.LevelSteps.{LevelSteps}
use Rattle.lanes.specs.declared.Lanes.{Lanes}
use Rattle.lines.specs.Lines.{place_within, buffer_within}
use Rattle.sheet.specs.Sheets.{figures_of, read_of}
use Rattle.sheet.specs.declared.ReadFault.{ReadFault}
use Rattle.sheet.specs.declared.Sheet.{Sheet}
use Rattle.width.specs.Width.{tenths_of}
use Rattle.width.specs.declared.Items.{Items}
use Rattle.worksheet.specs.Depths.{tries_from, tries_text, depth_head, depth_part}
use Rattle.worksheet.specs.Filling.{with}
use Rattle.worksheet.specs.Framing.{page_bytes, head_text, end_text}
use Rattle.worksheet.specs.Pages.{sized_text, sizes_text, answered_parts, refused_parts, page_text}
use Rattle.worksheet.specs.Refusals.{no_sheet_text}
use Rattle.worksheet.specs.Routes.{none_yet, greater_of, with_stretch, route_head, stretch_text, foot_text}
use Rattle.worksheet.specs.Rows.{rows_part}
use Rattle.worksheet.specs.Widths.{nine_tenths, between_tenths}
use Rattle.worksheet.specs.declared.Greatest.{Greatest}
use Rattle.worksheet.specs.declared.Readings.{Readings}
use Rattle.worksheet.specs.declared.Totals.{Totals}
use Rattle.datum.specs.declared.Level.{Level}
use Rattle.gauge.specs.declared.LevelFault.{LevelFault}
use Rattle.worksheet.proofs.Meaning as meaning

-- The tries on the page are the worksheet's, all of them and in their order,
pub tries_on_the_page : (q : Stretch) (knots : ℕ) → tries_text (worksheet_of q) knots ≡ tries_from 1 (tries q) knots
tries_on_the_page = meaning.tries_shown

-- and of a sheet that is answered they are as many as the answer's columns.
module _ (s : Sheet) (read : Result Level LevelFault) (f : Figures) (w : WorkedFrom s read f) where
  pub tries_as_many : length (tries (depth_stretch s f.level f.lanes)) ≡ f.columns
  tries_as_many = meaning.tries_counted s read f w

  -- Behind them stand the answer's cut, its sailing depth and its datum depth,
  pub depth_is_the_answers : depth_part (depth_stretch s f.level f.lanes) f.level
      ≡ (depth_head (depth_stretch s f.level f.lanes) ++ tries_from 1 (tries (depth_stretch s f.level f.lanes)) s.speed)
      ++ with "  cut %0   sailing depth s %0   datum depth %0 below chart datum\n" (Count f.cut.0 ∷ Count f.sailing.0 ∷ Signed f.datum.0 ∷ [])
  depth_is_the_answers = meaning.depth_shown s read f w

  -- and the width that is shown is worked at that depth, with the entries that the answer has; `width_worked` of `WorkedFrom` says that it is the answer's.
  pub sizes_are_the_answers : sizes_text s f.level f.lanes
      ≡ depth_part (depth_stretch s f.level f.lanes) f.level
      ++ sized_text s f.level f.lanes w.entries (record { cut = f.cut; sailing = f.sailing; columns = f.columns })
  sizes_are_the_answers = meaning.sizes_shown s read f w

-- The items on the page add up to the tenths that give the width: the nine once or twice, the banks, and what two lanes need between them.
pub items_add_up : (lanes : Lanes) (i : Items) → (nine_tenths i lanes + i.banks) + between_tenths lanes i ≡ tenths_of lanes i
items_add_up = meaning.items_sum

-- A page is that of the answer: of a sheet that is answered, of one that is turned away, and of bytes that are no sheet.
module _ (index : ℕ) (name bytes : List ℕ) (steps : LevelSteps) where
  pub page_of_answered : (s : Sheet) → read_of bytes ≡ Ok s → (f : Figures) → design_at bytes steps.read ≡ Ok f
      → page_text index name bytes steps ≡ (head_text index name ++ (rows_part (figures_of s) ++ answered_parts s steps f)) ++ end_text bytes
  page_of_answered = meaning.page_answered index name bytes steps

  pub page_of_refused : (s : Sheet) → read_of bytes ≡ Ok s → (reason : Reason) → design_at bytes steps.read ≡ Err reason
      → page_text index name bytes steps ≡ (head_text index name ++ (rows_part (figures_of s) ++ refused_parts s steps reason)) ++ end_text bytes
  page_of_refused = meaning.page_refused index name bytes steps

  pub page_of_no_sheet : (fault : ReadFault) → read_of bytes ≡ Err fault
      → page_text index name bytes steps ≡ (head_text index name ++ no_sheet_text fault (length bytes)) ++ end_text bytes
  page_of_no_sheet = meaning.page_unread index name bytes steps

-- The greatest figure so far, with one more: no less than either, and one of the two.
pub greatest_so_far : (one other : ℕ) → (one ≤ greater_of one other) × (other ≤ greater_of one other)
    × (((greater_of one other ≡ one) → ⊥) → greater_of one other ≡ other)
greatest_so_far = meaning.greater_is

-- One answered place and one later content of the buffer, of each call.
module _ (at : ℕ) (buffer : List ℕ) where
  module _ (index : ℕ) (name bytes : List ℕ) (steps : LevelSteps) where
    pub page_place_unique : (r s : ℕ) → r ≡ place_within page_bytes (page_text index name bytes steps) at buffer
        → s ≡ place_within page_bytes (page_text index name bytes steps) at buffer → r ≡ s
    page_place_unique = one_answer

    pub page_buffer_unique : (now later : List ℕ) → now ≡ buffer_within page_bytes (page_text index name bytes steps) at buffer
        → later ≡ buffer_within page_bytes (page_text index name bytes steps) at buffer → now ≡ later
    page_buffer_unique = one_answer

  pub head_place_unique : (r s : ℕ) → r ≡ place_within page_bytes (route_head 1) at buffer → s ≡ place_within page_bytes (route_head 1) at buffer → r ≡ s
  head_place_unique = one_answer

  pub head_buffer_unique : (now later : List ℕ) → now ≡ buffer_within page_bytes (route_head 1) at buffer
      → later ≡ buffer_within page_bytes (route_head 1) at buffer → now ≡ later
  head_buffer_unique = one_answer

  module _ (index : ℕ) (answer : Result Figures Reason) where
    pub stretch_place_unique : (r s : ℕ) → r ≡ place_within page_bytes (stretch_text index answer) at buffer
        → s ≡ place_within page_bytes (stretch_text index answer) at buffer → r ≡ s
    stretch_place_unique = one_answer

    pub stretch_buffer_unique : (now later : List ℕ) → now ≡ buffer_within page_bytes (stretch_text index answer) at buffer
        → later ≡ buffer_within page_bytes (stretch_text index answer) at buffer → now ≡ later
    stretch_buffer_unique = one_answer

  module _ (t : Totals) (g : Greatest) (r : Readings) where
    pub foot_place_unique : (one other : ℕ) → one ≡ place_within page_bytes (foot_text t g r) at buffer
        → other ≡ place_within page_bytes (foot_text t g r) at buffer → one ≡ other
    foot_place_unique = one_answer

    pub foot_buffer_unique : (now later : List ℕ) → now ≡ buffer_within page_bytes (foot_text t g r) at buffer
        → later ≡ buffer_within page_bytes (foot_text t g r) at buffer → now ≡ later
    foot_buffer_unique = one_answer

pub none_yet_unique : (g h : Greatest) → g ≡ none_yet → h ≡ none_yet → g ≡ h
none_yet_unique = one_answer

pub with_stretch_unique : (before : Greatest) (answer : Result Figures Reason) (g h : Greatest) → g ≡ with_stretch before answer → h ≡ with_stretch before answer → g ≡ h
with_stretch_unique before answer = one_answer
