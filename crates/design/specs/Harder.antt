-- Demand 3: which figures of a sheet, when greater, never make its design easier (section 0).
use Rattle.std.specs.Prelude.{◌≡◌, ◌≢◌, ◌⊎◌, List, [], ◌∷◌, ℕ, ◌≤◌, ◌<◌, ℤ, pos, ◌≤ℤ◌, Result, Ok, Err}
use Rattle.sheet.specs.Fields.{count, field}
use Rattle.sheet.specs.Packing.{groups_of, Bytes}
use Rattle.sheet.specs.Sheets.{read_of}
use Rattle.design.specs.Design.{lanes_for, design_of}
use Rattle.design.specs.Refusals.{sheet_in, UnderThreeBeams, reason_number}
use Rattle.design.specs.declared.Figures.{Figures}
use Rattle.design.specs.declared.Reason.{Reason}

-- what a design has of each: its cut, and its width without widening
abbrev pub cut : Figures → ℤ
cut f = pos f.cut.0

abbrev pub width : Figures → ℤ
width f = f.width

-- a field by its number, and the figure of the design that it never lessens
pub record Hardening : Type 0 where
  pub field : ℕ
  pub kept : Figures → ℤ

infix 5 ◌never_lessens◌
abbrev pub ◌never_lessens◌ : ℕ → (Figures → ℤ) → Hardening
◌never_lessens◌ field kept = record { field = field; kept = kept }

-- the figures that make a sheet harder
abbrev pub hardenings : List Hardening
hardenings =
    (2 never_lessens cut)  -- draft
    ∷ (3 never_lessens cut)  -- length
    ∷ (5 never_lessens cut)  -- speed
    ∷ (8 never_lessens cut)  -- wave allowance
    ∷ (9 never_lessens cut)  -- silting rate
    ∷ (7 never_lessens cut)  -- soil
    ∷ (4 never_lessens width)  -- beam
    ∷ (16 never_lessens width)  -- wind
    ∷ (17 never_lessens width)  -- cross current
    ∷ (18 never_lessens width)  -- along current
    ∷ (19 never_lessens width)  -- wave height
    ∷ []

-- the figure in field number k of a sheet's bytes
abbrev pub figure_in : List ℕ → ℕ → ℕ
figure_in bytes k = field (groups_of bytes) k

-- two strings of bytes that are read as sheets, so that every field is in its range; they differ in field k alone, which is greater in the second
pub record Raised (k : ℕ) (easy hard : List ℕ) : Type 0 where
  pub easy_read : read_of easy ≡ Ok (sheet_in easy)
  pub hard_read : read_of hard ≡ Ok (sheet_in hard)
  pub greater : figure_in easy k < figure_in hard k
  pub else_equal : (j : ℕ) → 1 ≤ j → j ≤ count → j ≢ k → figure_in easy j ≡ figure_in hard j

-- two of these that come to the same lanes by the lane rule
pub record Harder (k : ℕ) (easy hard : List ℕ) : Type 0 where
  pub raised : Raised k easy hard
  pub same_lanes : lanes_for (sheet_in easy) ≡ lanes_for (sheet_in hard)

-- 16 and 17: a deeper or wider cut may raise the critical speed, or reach a filled part of its table
abbrev pub Sixteen : Reason → Type 0
Sixteen r = reason_number r ≡ 16

abbrev pub Seventeen : Reason → Type 0
Seventeen r = reason_number r ≡ 17

abbrev pub BySpeed : Reason → Type 0
BySpeed r = Sixteen r ⊎ Seventeen r

-- the second design is no easier: refused, or answered where the first is, with a figure that is no less; refusals that are left out may be cured
pub data NoEasier (LeftOut : Reason → Type 0) (figure : Figures → ℤ) : Result Figures Reason → Result Figures Reason → Type 0 where
  no_less : {f g : Figures} → (figure f ≤ℤ figure g) → NoEasier LeftOut figure (Ok f) (Ok g)
  refused : {a : Result Figures Reason} {r : Reason} → NoEasier LeftOut figure a (Err r)
  cured : {r : Reason} {g : Figures} → LeftOut r → NoEasier LeftOut figure (Err r) (Ok g)

-- a sheet passes 18: its length is three beams or more
abbrev pub Passes : List ℕ → Type 0
Passes bytes = ¬ UnderThreeBeams (sheet_in bytes)

-- which two sheets are compared, as a longer ship can cure 18: two that both pass it, two of which the easier does, or any two
abbrev pub BothPass : List ℕ → List ℕ → Type 0
BothPass easy hard = Passes easy × Passes hard

abbrev pub EasierPasses : List ℕ → List ℕ → Type 0
EasierPasses easy hard = Passes easy

abbrev pub AnyTwo : List ℕ → List ℕ → Type 0
AnyTwo easy hard = Unit {0}

-- of the sheets compared, a greater figure in the field never makes a design easier, over any one table, but for the refusals that are left out
abbrev pub NeverEasierBut : (Reason → Type 0) → (List ℕ → List ℕ → Type 0) → Hardening → Type 0
NeverEasierBut LeftOut Compared h = (easy hard table : List ℕ) → Bytes easy → Bytes hard → Harder h.field easy hard → Compared easy hard
    → NoEasier LeftOut h.kept (design_of easy table) (design_of hard table)

-- demand 3's sentence on refusals leaves 16 and 17 out
abbrev pub NeverEasier : (List ℕ → List ℕ → Type 0) → Hardening → Type 0
NeverEasier = NeverEasierBut BySpeed
