-- Table 2a of document 001 (section 13.1): critical speeds in tenths of a metre a second, by bottom width, side slope and depth.
use Rattle.std.specs.Prelude.{ℕ, ◌+◌, ◌-◌, ◌*◌, Bool, ◌||◌, List, [], ◌∷◌, get_or, replicate, Option, Some, None}
use Rattle.laws.specs.Choice.{ifᵇ◌then◌else◌, ◌<ᵇ◌, ◌=ᵇ◌}

-- a dash of the table: no entry
abbrev pub dash : ℕ
dash = 0

-- V', in shallow water: at depths of 4 to 16 m
abbrev pub shallow_row : List ℕ
shallow_row = 46 ∷ 51 ∷ 56 ∷ 61 ∷ 65 ∷ 69 ∷ 73 ∷ 76 ∷ 80 ∷ 83 ∷ 86 ∷ 89 ∷ 92 ∷ []

-- V'', in a full section: at depths of 4 to 16 m
abbrev pub full_table : List (List ℕ)
full_table =
    (37 ∷ 38 ∷ 38 ∷ 38 ∷ 39 ∷ 39 ∷ 39 ∷ 39 ∷ 39 ∷ 39 ∷ 40 ∷ 41 ∷ 41 ∷ [])  -- 50 m, 1/4
    ∷ (38 ∷ 41 ∷ 41 ∷ 43 ∷ 45 ∷ 45 ∷ 47 ∷ 47 ∷ 47 ∷ 47 ∷ 48 ∷ 49 ∷ 49 ∷ [])  -- 1/8
    ∷ (39 ∷ 43 ∷ 44 ∷ 46 ∷ 48 ∷ 50 ∷ 50 ∷ 50 ∷ 50 ∷ 52 ∷ 54 ∷ 55 ∷ 56 ∷ [])  -- 1/12
    ∷ (45 ∷ 45 ∷ 45 ∷ 47 ∷ 49 ∷ 50 ∷ 50 ∷ 50 ∷ 50 ∷ 51 ∷ 52 ∷ 53 ∷ 53 ∷ [])  -- 100 m, 1/4
    ∷ (45 ∷ 46 ∷ 48 ∷ 50 ∷ 53 ∷ 54 ∷ 55 ∷ 55 ∷ 55 ∷ 56 ∷ 57 ∷ 57 ∷ 58 ∷ [])  -- 1/8
    ∷ (46 ∷ 49 ∷ 51 ∷ 55 ∷ 57 ∷ 58 ∷ 61 ∷ 61 ∷ 61 ∷ 61 ∷ 61 ∷ 61 ∷ 62 ∷ [])  -- 1/12
    ∷ (dash ∷ 51 ∷ 51 ∷ 52 ∷ 56 ∷ 57 ∷ 58 ∷ 58 ∷ 58 ∷ 59 ∷ 60 ∷ 60 ∷ 60 ∷ [])  -- 150 m, 1/4
    ∷ (dash ∷ dash ∷ 53 ∷ 54 ∷ 57 ∷ 59 ∷ 61 ∷ 62 ∷ 62 ∷ 62 ∷ 62 ∷ 63 ∷ 64 ∷ [])  -- 1/8
    ∷ (dash ∷ dash ∷ 55 ∷ 56 ∷ 60 ∷ 61 ∷ 64 ∷ 65 ∷ 65 ∷ 67 ∷ 67 ∷ 68 ∷ 68 ∷ [])  -- 1/12
    ∷ (dash ∷ dash ∷ 55 ∷ 57 ∷ 59 ∷ 62 ∷ 64 ∷ 64 ∷ 64 ∷ 64 ∷ 64 ∷ 65 ∷ 65 ∷ [])  -- 200 m, 1/4
    ∷ (dash ∷ dash ∷ 56 ∷ 58 ∷ 60 ∷ 64 ∷ 64 ∷ 65 ∷ 66 ∷ 67 ∷ 68 ∷ 69 ∷ 70 ∷ [])  -- 1/8
    ∷ (dash ∷ dash ∷ dash ∷ 59 ∷ 62 ∷ 65 ∷ 68 ∷ 67 ∷ 69 ∷ 70 ∷ 72 ∷ 73 ∷ 74 ∷ [])  -- 1/12
    ∷ (dash ∷ dash ∷ dash ∷ 60 ∷ 63 ∷ 65 ∷ 66 ∷ 67 ∷ 67 ∷ 68 ∷ 69 ∷ 69 ∷ 70 ∷ [])  -- 250 m, 1/4
    ∷ (dash ∷ dash ∷ dash ∷ 61 ∷ 64 ∷ 66 ∷ 67 ∷ 68 ∷ 70 ∷ 71 ∷ 73 ∷ 73 ∷ 73 ∷ [])  -- 1/8
    ∷ (dash ∷ dash ∷ dash ∷ dash ∷ 65 ∷ 68 ∷ 69 ∷ 70 ∷ 72 ∷ 73 ∷ 75 ∷ 76 ∷ 77 ∷ [])  -- 1/12
    ∷ []

-- a line of a grid is none of the table's, which has first to last
abbrev pub outside : ℕ → ℕ → ℕ → Bool
outside line first last = (line <ᵇ first) || (last <ᵇ line)

-- the row of a width in lines of 50 m, 1 to 5, and a slope in lines of 4, 1 to 3; dashes outside
unfoldable pub full_row : ℕ → ℕ → List ℕ
full_row width slope =
    ifᵇ outside width 1 5
    then replicate 13 dash
    else (ifᵇ outside slope 1 3 then replicate 13 dash else get_or full_table (3 * (width - 1) + (slope - 1)) [])

-- what stands in the table, as a speed: a dash is none
unfoldable pub entry : ℕ → Option ℕ
entry figure = ifᵇ figure =ᵇ dash then None else Some figure

-- the point of a row at a depth in whole metres, 4 to 16: missing at a dash, and outside
unfoldable pub point_of : List ℕ → ℕ → Option ℕ
point_of row metres = ifᵇ outside metres 4 16 then None else entry (get_or row (metres - 4) 0)

-- a point of the shallow row, and one of the full sections, by their lines
abbrev pub shallow_point : ℕ → Option ℕ
shallow_point metres = point_of shallow_row metres

abbrev pub full_point : ℕ → ℕ → ℕ → Option ℕ
full_point width slope metres = point_of (full_row width slope) metres
