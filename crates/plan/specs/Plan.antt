-- The call from C: a sheet and a place in, a number back (section 9).
use Rattle.std.specs.Prelude.{List, [], ◌∷◌, ◌++◌, ℕ, ◌*◌, ◌<◌, length, drop, Result, Err}
use Rattle.laws.specs.Choice.{ifᵇ◌then◌else◌, ◌<ᵇ◌}
use Rattle.laws.specs.Rows.{Row, ◌when◌}
use Rattle.gauge.specs.declared.LevelFault.TheVariants.{WrongTable}
use Rattle.design.specs.Design.{design_at}
use Rattle.design.specs.Numbers.{code_of, number_count, numbers_of}
use Rattle.design.specs.Refusals.{rows}
use Rattle.plan.specs.Words.{bytes_of_numbers}
use Rattle.design.specs.declared.Figures.{Figures}
use Rattle.design.specs.declared.Reason.{Reason}

-- four bytes for each number of an answer
abbrev pub needed : ℕ
needed = 4 * number_count

-- there is no table, so a level off the record gives 4
abbrev pub planned : List ℕ → Result Figures Reason
planned sheet = design_at sheet (Err WrongTable)

-- what is returned: 12 is tested first
unfoldable pub plan_number : List ℕ → List ℕ → ℕ
plan_number sheet place = ifᵇ length place <ᵇ needed then 12 else code_of (planned sheet)

-- what the place then holds: the numbers first, and its later bytes; or, with 12, what it held
unfoldable pub plan_place : List ℕ → List ℕ → List ℕ
plan_place sheet place = ifᵇ length place <ᵇ needed then place else bytes_of_numbers (numbers_of (planned sheet)) ++ drop needed place

-- the rows that the call checks, in their order: 12, then a design's over no table
abbrev pub plan_rows : List ℕ → List ℕ → List Row
plan_rows sheet place = (12 when (length place < needed)) ∷ rows sheet []
