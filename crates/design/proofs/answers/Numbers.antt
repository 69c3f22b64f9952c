-- The numbers of an answer begin with the code and the field, which name one reason; the figures after them are 0 when refused. By cases of the reason.
use Rattle.std.specs.Prelude.{Result, Ok, Err}
use mathlib.Core.Path.{◌≡◌, refl, sym, ap, ap₂, ◌∙◌}
use mathlib.Core.Bool.{Bool, true, ◌&&◌}
use mathlib.Core.List.{List, [], ◌∷◌}
use mathlib.Core.Logic.{◌⊎◌, inl, inr, ◌↔◌, ◌≢◌}
use Prim.Native.Nat.{ℕ, ◌≤◌}
use native.Mathlib.Omega.{arith}
use lib.Dec.{T, leb→le}
use lib.IntN.{pos}
use lib.ListN.{length, take}
use Rattle.laws.specs.Choice.{ifᵇ◌then◌else◌, ◌≤ᵇ◌, ◌=ᵇ◌}
use Rattle.laws.specs.Rows.{Row, Listed}
use Rattle.laws.proofs.Every.{both_left, both_right}
use Rattle.laws.proofs.Rows.{absent, present, present_listed, present_other}
use Rattle.sheet.specs.declared.ReadFault.TheVariants.{WrongLength, SpareBitSet, BadField}
use Rattle.gauge.specs.declared.LevelFault.TheVariants.{WrongTable, TooFewReadings, RangeTooWide}
use Rattle.width.specs.declared.WidthFault.TheVariants.{BendTooTight, NoWidthEntry}
use Rattle.depth.specs.declared.DepthFault.TheVariants.{NoSquatEntry, SiltOver, CutOver}
use Rattle.speed.specs.declared.SpeedFault.TheVariants.{PointMissing, TooFast}
use Rattle.design.specs.Numbers.{code_of, field_of, number_count, numbers_of}
use Rattle.design.specs.Refusals.{reason_number, reason_field, rows}
use Rattle.design.specs.declared.Figures.{Figures}
use Rattle.design.specs.declared.Reason.{Reason}
use Rattle.design.specs.declared.Reason.TheVariants.{NoSheet, NoShip, NoLevel, NoWidth, NoDepth, NoSpeed}

pub code_and_field : (a : Result Figures Reason) → take 2 (numbers_of a) ≡ pos (code_of a) ∷ pos (field_of a) ∷ []
unfolding numbers_of
code_and_field (Ok f) = refl
code_and_field (Err r) = refl

pub counted : (a : Result Figures Reason) → length (numbers_of a) ≡ number_count
unfolding numbers_of
counted (Ok f) = refl
counted (Err r) = refl

-- each reason's number is that of a row, whatever the bytes and the table
reason_present : (bytes table : List ℕ) (r : Reason) → T (present (reason_number r) (rows bytes table))
unfolding rows
reason_present bytes table (NoSheet WrongLength) = tt
reason_present bytes table (NoSheet SpareBitSet) = tt
reason_present bytes table (NoSheet (BadField k)) = tt
reason_present bytes table NoShip = tt
reason_present bytes table (NoLevel WrongTable) = tt
reason_present bytes table (NoLevel TooFewReadings) = tt
reason_present bytes table (NoLevel RangeTooWide) = tt
reason_present bytes table (NoWidth BendTooTight) = tt
reason_present bytes table (NoWidth NoWidthEntry) = tt
reason_present bytes table (NoDepth NoSquatEntry) = tt
reason_present bytes table (NoDepth SiltOver) = tt
reason_present bytes table (NoDepth CutOver) = tt
reason_present bytes table (NoSpeed PointMissing) = tt
reason_present bytes table (NoSpeed TooFast) = tt

-- each row's number is held in 8 bits, and so is each reason's
abbrev rows_to : ℕ → List Row → Bool
rows_to most [] = true
rows_to most (row ∷ rows) = (row.number ≤ᵇ most) && rows_to most rows

listed_to : (most : ℕ) (rows : List Row) (number : ℕ) → T (rows_to most rows) → Listed rows number → number ≤ most
listed_to most [] number to listed = absurd listed
listed_to most (row ∷ rows) number to (inl e) = omega (arith, leb→le row.number most (both_left (row.number ≤ᵇ most) (rows_to most rows) to))
listed_to most (row ∷ rows) number to (inr listed) = listed_to most rows number (both_right (row.number ≤ᵇ most) (rows_to most rows) to) listed

pub reason_to : (r : Reason) → reason_number r ≤ 255
unfolding rows
reason_to r = listed_to 255 (rows [] []) (reason_number r) tt (present_listed (reason_number r) (rows [] []) (reason_present [] [] r))

module _ (bytes table : List ℕ) where
  pub code_listed : (a : Result Figures Reason) → (code_of a ≡ 0) ⊎ Listed (rows bytes table) (code_of a)
  code_listed (Ok f) = inl refl
  code_listed (Err r) = inr (present_listed (reason_number r) (rows bytes table) (reason_present bytes table r))

  pub code_never : (a : Result Figures Reason) (number : ℕ) → 1 ≤ number → T (absent number (rows bytes table)) → code_of a ≢ number
  code_never (Ok f) number some none e = omega arith
  code_never (Err r) number some none e = present_other (reason_number r) number (rows bytes table) (reason_present bytes table r) none e

-- the code is 0 exactly when the design is answered
pub refused_some : (r : Reason) → reason_number r ≢ 0
unfolding rows
refused_some r e = present_other (reason_number r) 0 (rows [] []) (reason_present [] [] r) tt e

pub zero_exactly : (a : Result Figures Reason) → (code_of a ≡ 0) ↔ ((f : Figures) × (a ≡ Ok f))
zero_exactly (Ok f) = ((λ e. (f, refl)), (λ e. refl))
zero_exactly (Err r) = ((λ e. absurd (refused_some r e)), (λ answered. ap code_of answered.1))

-- the field is 0 unless the number is 3
pub field_zero : (r : Reason) → reason_number r ≢ 3 → reason_field r ≡ 0
field_zero (NoSheet WrongLength) n = refl
field_zero (NoSheet SpareBitSet) n = refl
field_zero (NoSheet (BadField k)) n = absurd (n refl)
field_zero NoShip n = refl
field_zero (NoLevel fault) n = refl
field_zero (NoWidth fault) n = refl
field_zero (NoDepth fault) n = refl
field_zero (NoSpeed fault) n = refl

pub field_unless : (a : Result Figures Reason) → code_of a ≢ 3 → field_of a ≡ 0
field_unless (Ok f) n = refl
field_unless (Err r) n = field_zero r n

-- the reason of a number and a field
abbrev reason_from : ℕ → ℕ → Reason
reason_from number field =
    ifᵇ number =ᵇ 1 then NoSheet WrongLength else
    (ifᵇ number =ᵇ 2 then NoSheet SpareBitSet else
    (ifᵇ number =ᵇ 3 then NoSheet (BadField field) else
    (ifᵇ number =ᵇ 18 then NoShip else
    (ifᵇ number =ᵇ 4 then NoLevel WrongTable else
    (ifᵇ number =ᵇ 5 then NoLevel TooFewReadings else
    (ifᵇ number =ᵇ 6 then NoLevel RangeTooWide else
    (ifᵇ number =ᵇ 7 then NoWidth BendTooTight else
    (ifᵇ number =ᵇ 8 then NoWidth NoWidthEntry else
    (ifᵇ number =ᵇ 13 then NoDepth NoSquatEntry else
    (ifᵇ number =ᵇ 14 then NoDepth SiltOver else
    (ifᵇ number =ᵇ 15 then NoDepth CutOver else
    (ifᵇ number =ᵇ 16 then NoSpeed PointMissing else NoSpeed TooFast))))))))))))

reason_back : (r : Reason) → reason_from (reason_number r) (reason_field r) ≡ r
reason_back (NoSheet WrongLength) = refl
reason_back (NoSheet SpareBitSet) = refl
reason_back (NoSheet (BadField k)) = refl
reason_back NoShip = refl
reason_back (NoLevel WrongTable) = refl
reason_back (NoLevel TooFewReadings) = refl
reason_back (NoLevel RangeTooWide) = refl
reason_back (NoWidth BendTooTight) = refl
reason_back (NoWidth NoWidthEntry) = refl
reason_back (NoDepth NoSquatEntry) = refl
reason_back (NoDepth SiltOver) = refl
reason_back (NoDepth CutOver) = refl
reason_back (NoSpeed PointMissing) = refl
reason_back (NoSpeed TooFast) = refl

pub one_reason : (r t : Reason) → reason_number r ≡ reason_number t → reason_field r ≡ reason_field t → r ≡ t
one_reason r t n f = sym (reason_back r) ∙ ap₂ reason_from n f ∙ reason_back t
