-- What turns a stretch away here (section 8): the bend, and the entries of the width; each row's number, and what it means.
use Rattle.std.specs.Prelude.{List, [], ◌∷◌, ◌⊎◌, ◌≢◌, ◌≡◌, ℕ, ◌*◌, ◌<◌, ◌≤◌, Result, Ok, Err}
use Rattle.std.proofs.Common.{lit≤}
use Rattle.laws.specs.Rows.{Row, ◌when◌}
use Rattle.datum.specs.declared.CrossCurrent.{CrossCurrent}
use Rattle.width.specs.declared.WidthFault.{WidthFault}
use Rattle.width.specs.declared.WidthFault.TheVariants.{BendTooTight, NoWidthEntry as EntryFault}
use Rattle.width.specs.Bends.{least_lengths}
use Rattle.width.specs.declared.Entries.{Entries}

-- the number of each fault
abbrev pub width_fault_number : WidthFault → ℕ
width_fault_number BendTooTight = 7
width_fault_number EntryFault = 8

-- none is 0, which is no refusal's
pub width_fault_some : (fault : WidthFault) → 1 ≤ width_fault_number fault
width_fault_some BendTooTight = lit≤ tt
width_fault_some EntryFault = lit≤ tt

-- the number of each answer, 0 for none
abbrev pub bend_number : Result ℕ WidthFault → ℕ
bend_number (Ok cm) = 0
bend_number (Err fault) = width_fault_number fault

abbrev pub entries_number : Result Entries WidthFault → ℕ
entries_number (Ok entries) = 0
entries_number (Err fault) = width_fault_number fault

-- 7: bend too tight, which is a turn with a radius under the least; the radius is in m and the length in cm
pub record TightBend (turn radius length : ℕ) : Type 0 where
  pub bent : turn ≢ 0
  pub under : 100 * radius < least_lengths turn * length

-- 8: no width entry, which is a cross current over 15 or a wave over 100 in sheltered water
pub record NoWidthEntry (water : ℕ) (cross : CrossCurrent) (wave : ℕ) : Type 0 where
  pub sheltered : water ≡ 1
  pub beyond : (15 < cross.0) ⊎ (100 < wave)

-- the row that each call checks
abbrev pub bend_rows : ℕ → ℕ → ℕ → List Row
bend_rows turn radius length = (7 when TightBend turn radius length) ∷ []

abbrev pub entries_rows : ℕ → CrossCurrent → ℕ → List Row
entries_rows water cross wave = (8 when NoWidthEntry water cross wave) ∷ []
