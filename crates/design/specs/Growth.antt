-- What a deeper load, more waves and a second lane cost in depth: of two sheets that differ in one figure, by how much the cut grows at least, and
-- pairs in which it grows by just that and by more.
use Rattle.std.specs.Prelude.{◌≡◌, List, [], ◌∷◌, ℕ, ◌+◌, ◌-◌, ◌≤◌, Result, Ok, Err}
use Rattle.sheet.specs.CaseS.{altered_s}
use Rattle.sheet.specs.Packing.{Bytes}
use Rattle.sheet.specs.declared.Sheet.{Sheet}
use Rattle.design.specs.Design.{design_of}
use Rattle.design.specs.Harder.{figure_in, Raised}
use Rattle.design.specs.Numbers.{code_of}
use Rattle.design.specs.Starred.{writing}
use Rattle.design.specs.declared.Reason.{Reason}
use Rattle.design.specs.declared.Figures.{Figures}

-- where both designs are answered, the second cut is deeper by so many cm or more
abbrev pub Deeper : ℕ → Result Figures Reason → Result Figures Reason → Type 0
Deeper cm (Ok f) (Ok g) = f.cut.0 + cm ≤ g.cut.0
Deeper cm (Ok f) (Err r) = Unit {0}
Deeper cm (Err r) (Ok g) = Unit {0}
Deeper cm (Err r) (Err r') = Unit {0}

-- by how much the figure of a field is greater in the second of two sheets
abbrev pub increase : ℕ → List ℕ → List ℕ → ℕ
increase k easy hard = figure_in hard k - figure_in easy k

-- of two sheets that differ in field k alone, over any one table, the cut grows by at least as many centimetres as the figure
abbrev pub CentimetreForCentimetre : ℕ → Type 0
CentimetreForCentimetre k = (easy hard table : List ℕ) → Bytes easy → Bytes hard → Raised k easy hard
    → Deeper (increase k easy hard) (design_of easy table) (design_of hard table)

-- the figures, in centimetres, of which this is promised
abbrev pub loads : List ℕ
loads =
    2  -- draft
    ∷ 8  -- wave allowance
    ∷ []

-- two sheets that differ in the lanes that are named: the second names two, where the first names one or leaves them to the traffic
pub record NamesTwo (fewer two : List ℕ) : Type 0 where
  pub raised : Raised 11 fewer two
  pub named : figure_in two 11 ≡ 2

-- a pair of sheets that differ in one field, and by how much the figure and the cut are greater in the second
pub record Growth : Type 0 where
  pub field : ℕ
  pub easy : Sheet
  pub hard : Sheet
  pub figure : ℕ
  pub cut : ℕ

-- S with a draft, a speed, a bed, a wave allowance and lanes
abbrev S : ℕ → ℕ → ℕ → ℕ → ℕ → Sheet
S draft speed bed allowance lanes = altered_s draft 20000 3000 speed bed allowance 0 lanes 0 0 0

-- of each figure a pair in which the cut grows by as much as it must, and one in which it grows by more
abbrev pub draft_as_much : Growth
draft_as_much = record { field = 2; easy = S 999 8 500 30 1; hard = S 1000 8 500 30 1; figure = 1; cut = 1 }

abbrev pub draft_more : Growth
draft_more = record { field = 2; easy = S 1000 8 500 30 1; hard = S 1001 8 500 30 1; figure = 1; cut = 2 }

abbrev pub allowance_as_much : Growth
allowance_as_much = record { field = 8; easy = S 1000 8 500 30 1; hard = S 1000 8 500 31 1; figure = 1; cut = 1 }

abbrev pub allowance_more : Growth
allowance_more = record { field = 8; easy = S 1000 8 578 31 1; hard = S 1000 8 578 32 1; figure = 1; cut = 16 }

abbrev pub lanes_as_much : Growth
lanes_as_much = record { field = 11; easy = S 1000 2 500 30 1; hard = S 1000 2 500 30 2; figure = 1; cut = 0 }

abbrev pub lanes_more : Growth
lanes_more = record { field = 11; easy = S 1000 8 500 30 1; hard = S 1000 8 500 30 2; figure = 1; cut = 40 }

abbrev pub growths : List Growth
growths = draft_as_much ∷ draft_more ∷ allowance_as_much ∷ allowance_more ∷ lanes_as_much ∷ lanes_more ∷ []

-- the cut of an answer, 0 when refused
abbrev pub cut_in : Result Figures Reason → ℕ
cut_in (Ok f) = f.cut.0
cut_in (Err r) = 0

-- both sheets are answered over any table, and figure and cut are greater by so much
pub record Grown (pair : Growth) : Type 0 where
  pub raised : Raised pair.field (writing pair.easy) (writing pair.hard)
  pub figure_grown : figure_in (writing pair.easy) pair.field + pair.figure ≡ figure_in (writing pair.hard) pair.field
  pub answered : (table : List ℕ) → (code_of (design_of (writing pair.easy) table) ≡ 0) × (code_of (design_of (writing pair.hard) table) ≡ 0)
  pub cut_grown : (table : List ℕ) → cut_in (design_of (writing pair.easy) table) + pair.cut ≡ cut_in (design_of (writing pair.hard) table)
