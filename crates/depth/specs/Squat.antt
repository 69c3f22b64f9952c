-- The squat table (section 4.3): z3 in cm, by column, lanes and speed.
use Rattle.std.specs.Prelude.{ℕ, ◌+◌, ◌-◌, ◌*◌, List, [], ◌∷◌, get_or}
use Rattle.laws.specs.Choice.{ifᵇ◌then◌else◌, ◌<ᵇ◌}
use Rattle.lanes.specs.declared.Lanes.{Lanes}
use Rattle.lanes.specs.declared.Lanes.TheVariants.{One, Two}
use Rattle.depth.specs.declared.Column.{Column}
use Rattle.depth.specs.declared.Column.TheVariants.{A, B, C}

-- no entry: it counts as greater than every entry
abbrev pub none : ℕ
none = 9999

-- speeds 2 to 12: column A lone, passing; column B lone, passing; column C lone, passing
abbrev pub squat_table : List (List ℕ)
squat_table =
    (5 ∷ 10 ∷ 10 ∷ 15 ∷ 20 ∷ 25 ∷ 35 ∷ 45 ∷ 60 ∷ 80 ∷ 100 ∷ [])
    ∷ (10 ∷ 20 ∷ 20 ∷ 25 ∷ 35 ∷ 45 ∷ 65 ∷ 80 ∷ 110 ∷ 145 ∷ 180 ∷ [])
    ∷ (10 ∷ 10 ∷ 15 ∷ 20 ∷ 25 ∷ 35 ∷ 50 ∷ 65 ∷ 90 ∷ 120 ∷ none ∷ [])
    ∷ (10 ∷ 20 ∷ 25 ∷ 35 ∷ 45 ∷ 65 ∷ 90 ∷ 120 ∷ 160 ∷ 215 ∷ none ∷ [])
    ∷ (10 ∷ 15 ∷ 20 ∷ 25 ∷ 35 ∷ 45 ∷ 60 ∷ 80 ∷ 100 ∷ none ∷ none ∷ [])
    ∷ (20 ∷ 25 ∷ 35 ∷ 40 ∷ 65 ∷ 80 ∷ 110 ∷ 145 ∷ 200 ∷ none ∷ none ∷ [])
    ∷ []

-- the columns in their order
abbrev pub column_number : Column → ℕ
column_number A = 0
column_number B = 1
column_number C = 2

-- one lane reads lone, two read passing
abbrev pub squat_reading : Lanes → ℕ
squat_reading One = 0
squat_reading Two = 1

-- the entry at a speed, of the column's number and the reading; a speed outside the table has none
unfoldable pub squat_entry : ℕ → ℕ → ℕ → ℕ
squat_entry column reading speed =
    ifᵇ speed <ᵇ 2
    then none
    else (ifᵇ 12 <ᵇ speed then none else get_or (get_or squat_table (2 * column + reading) []) (speed - 2) 0)

-- the squat of a column at a speed
abbrev pub squat_of : Lanes → Column → ℕ → ℕ
squat_of lanes column speed = squat_entry (column_number column) (squat_reading lanes) speed

-- the greatest speed with an entry in a column
abbrev pub fastest_entry : Column → ℕ
fastest_entry A = 12
fastest_entry B = 11
fastest_entry C = 10
