-- What the call from C promises (section 9).
use mathlib.Core.Path.{◌≡◌}
use mathlib.Core.List.{List, []}
use mathlib.Core.Logic.{◌↔◌}
use Prim.Native.Nat.{ℕ, ◌≤◌, ◌<◌}
use lib.IntN.{pos}
use lib.ListN.{length, take, drop, get_or}
use mir.Syntax.{w32}
use mir.Val.{SFits}
use Rattle.laws.specs.Each.{Each}
use Rattle.laws.specs.Rows.{Exactly}
use Rattle.laws.proofs.Unique.{one_answer}
use Rattle.sheet.specs.Packing.{Bytes}
use Rattle.design.specs.Design.{design_of}
use Rattle.design.specs.Numbers.{code_of, number_count, numbers_of}
use Rattle.design.proofs.Promises.{no_table}
use Rattle.plan.specs.Words.{bytes_of_numbers, number_at}
use Rattle.plan.specs.Plan.{needed, planned, plan_number, plan_place, plan_rows}
use Rattle.plan.proofs.Planning.{too_small, twelve_exactly, number_exactly, code_where_large, numbers_first, planned_fits, number_in_place, later_stay}

-- 12, tested first: a place with fewer bytes than the numbers need.
pub number_12 : (sheet place : List ℕ) → (plan_number sheet place ≡ 12) ↔ (length place < needed)
number_12 = twelve_exactly

-- A number is given exactly when its row holds and none checked before it does: 12, and then those of a design.
pub number_given : (sheet place : List ℕ) → Bytes sheet → Exactly (plan_rows sheet place) (plan_number sheet place)
number_given = number_exactly

-- Nothing is written then.
pub nothing_written : (sheet place : List ℕ) → length place < needed → place ≡ plan_place sheet place
nothing_written sheet place h = (too_small sheet place h).1

-- Otherwise the code is returned.
pub code_returned : (sheet place : List ℕ) → needed ≤ length place → plan_number sheet place ≡ code_of (planned sheet)
code_returned = code_where_large

-- The first bytes get the numbers of the design, signed, 32 bits each, most significant byte first.
pub numbers_written : (sheet place : List ℕ) → needed ≤ length place → take needed (plan_place sheet place) ≡ bytes_of_numbers (numbers_of (planned sheet))
numbers_written = numbers_first

-- All numbers of the design fit 32 bits.
pub numbers_fit : (sheet : List ℕ) → Bytes sheet → Each (SFits w32) (numbers_of (planned sheet))
numbers_fit = planned_fits

-- So number i, read back from its four bytes, most significant first and signed, is the design's number i.
pub number_read_back : (sheet place : List ℕ) → Bytes sheet → needed ≤ length place → (i : ℕ) → i < number_count
    → number_at (plan_place sheet place) i ≡ get_or (numbers_of (planned sheet)) i (pos 0)
number_read_back = number_in_place

-- There is no table: the design is that over a table of no slots, so that a level off the record gives 4.
pub planned_without_table : (sheet : List ℕ) → planned sheet ≡ design_of sheet []
planned_without_table = no_table

-- Later bytes stay.
pub later_bytes_stay : (sheet place : List ℕ) → drop needed (plan_place sheet place) ≡ drop needed place
later_bytes_stay = later_stay

-- One number back, and one later content of the place.
pub one_number : (sheet place : List ℕ) (r s : ℕ) → r ≡ plan_number sheet place → s ≡ plan_number sheet place → r ≡ s
one_number sheet place = one_answer

pub one_place : (sheet place r s : List ℕ) → r ≡ plan_place sheet place → s ≡ plan_place sheet place → r ≡ s
one_place sheet place = one_answer
