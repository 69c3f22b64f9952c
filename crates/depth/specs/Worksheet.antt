-- The worksheet (section 4.7): how the cut is found, column by column.
use Rattle.std.specs.Prelude.{◌≡◌, ℕ, zero, suc, ◌+◌, ◌-◌, ◌*◌, ◌<◌, Bool, true, false, List, [], ◌∷◌, ◌++◌, length, take, Result, Ok, Err}
use Rattle.laws.specs.Choice.{ifᵇ◌then◌else◌, ◌≤ᵇ◌, ◌<ᵇ◌, ◌=ᵇ◌}
use Rattle.laws.specs.Rounding.{up}
use Rattle.datum.specs.Datum.{below}
use Rattle.datum.specs.Datum.{dug}
use Rattle.depth.specs.declared.Stretch.{Stretch}
use Rattle.depth.specs.declared.Column.{Column}
use Rattle.depth.specs.declared.Column.TheVariants.{A}
use Rattle.depth.specs.declared.ReckonedDepth.{ReckonedDepth}
use Rattle.depth.specs.declared.Try.{Try}
use Rattle.depth.specs.declared.DepthFault.TheVariants.{NoSquatEntry, SiltOver, CutOver}
use Rattle.depth.specs.declared.Finding.TheVariants.{Stays, Moves}
use Rattle.depth.specs.declared.Worksheet.{Worksheet}
use Rattle.depth.specs.Squat.{none, column_number}
use Rattle.depth.specs.Depth.{z3, natural_of, filling, sailing, own_column}
use Rattle.depth.specs.declared.Finding.{Finding}
use Rattle.depth.specs.declared.DepthFigures.{DepthFigures}
use Rattle.depth.specs.declared.DepthFault.{DepthFault}

-- a depth below the design level as the worksheet reckons it
abbrev pub reckoned : ℕ → ReckonedDepth
reckoned cm = record { 0 = cm }

-- the mark of a column in which every cut silts up whole, so that it has no figure: greater than every silt
abbrev pub endless : ℕ
endless = 999999999999

-- the silt of the least cut that is at least s and its own silt, worked out: 0 when s ≤ N, else P × interval × (s - N) / (100,000 - P × interval),
-- rounded up; endless where P × interval is 100,000 or more
unfoldable pub silt_over : Stretch → ℕ → ℕ
silt_over q s =
    ifᵇ s ≤ᵇ natural_of q
    then 0
    else (ifᵇ 100000 ≤ᵇ filling q
    then endless
    else up (filling q * dug (natural_of q) s) (100000 - filling q))

-- the silt of a column
unfoldable pub silt : Stretch → Column → ℕ
silt q c = silt_over q (sailing q c)

-- a column's figure: s and its silt
unfoldable pub figure : Stretch → Column → ℕ
figure q c = sailing q c + silt q c

-- the line of a column: z3, s, the silt, the figure and the column it falls in
unfoldable pub column_try : Stretch → Column → Try
column_try q c = record {
  column = c;
  squat = z3 q c;
  sailing = reckoned (sailing q c);
  silt = silt q c;
  figure = reckoned (figure q c);
  falls_in = own_column q (figure q c);
}

-- what a try comes to: a column without an entry, with silt over 120 or a figure over 3,000 cannot be used; else it stays or moves
unfoldable pub finding_of : Try → Result Finding DepthFault
finding_of t =
    ifᵇ none ≤ᵇ t.squat
    then Err NoSquatEntry
    else (ifᵇ 120 <ᵇ t.silt
    then Err SiltOver
    else (ifᵇ 3000 <ᵇ t.figure.0
    then Err CutOver
    else (ifᵇ column_number t.falls_in =ᵇ column_number t.column then (Ok Stays) else (Ok Moves))))

-- the worksheet goes on from a try
abbrev pub is_move : Result Finding DepthFault → Bool
is_move (Ok Stays) = false
is_move (Ok Moves) = true
is_move (Err fault) = false

unfoldable pub moves_on : Try → Bool
moves_on t = is_move (finding_of t)

-- the tries from a column on, by its line: where that moves, those from the column its figure falls in follow, so often at most
unfoldable pub walk : (Column → Try) → ℕ → Column → List Try
walk line zero c = line c ∷ []
walk line (suc often) c = line c ∷ (ifᵇ moves_on (line c) then walk line often (line c).falls_in else [])

-- the worksheet's tries: it begins in column A, and moves at most twice
unfoldable pub tries : Stretch → List Try
tries q = walk (column_try q) 2 A

-- a line that was not needed
abbrev pub blank_try : Try
blank_try = record { column = A; squat = 0; sailing = reckoned 0; silt = 0; figure = reckoned 0; falls_in = A }

-- the worksheet as data: three lines, of which the first are its tries
unfoldable pub worksheet_of : Stretch → Worksheet
worksheet_of q = record { tries = take 3 (tries q ++ (blank_try ∷ blank_try ∷ [])); count = length (tries q) }

-- the last try
abbrev pub last_try : List Try → Try
last_try [] = blank_try
last_try (t ∷ []) = t
last_try (t ∷ (u ∷ later)) = last_try (u ∷ later)

-- the answer of a try that is the last of so many columns
abbrev pub answer_by : Result Finding DepthFault → Try → ℕ → Result DepthFigures DepthFault
answer_by (Ok Stays) t columns = Ok (record { cut = below t.figure.0; sailing = below t.sailing.0; columns = columns })
answer_by (Ok Moves) t columns = Err CutOver
answer_by (Err fault) t columns = Err fault

unfoldable pub answer_of : Try → ℕ → Result DepthFigures DepthFault
answer_of t columns = answer_by (finding_of t) t columns

-- the depth of a stretch: the worksheet's last try, and how many columns it tried
unfoldable pub work_depth : Stretch → Result DepthFigures DepthFault
work_depth q = answer_of (last_try (tries q)) (length (tries q))

-- tries that follow the worksheet from a column on, with no word of how often it moves: it goes on exactly as long as it moves
abbrev pub Followed : (Column → Try) → Column → List Try → Type 0
Followed line c [] = ⊥
Followed line c (t ∷ []) = (t ≡ line c) × (moves_on t ≡ false)
Followed line c (t ∷ (u ∷ later)) = (t ≡ line c) × (moves_on t ≡ true) × Followed line t.falls_in (u ∷ later)

-- a depth that counts the columns as the worksheet has them
abbrev pub Counted : Stretch → Result DepthFigures DepthFault → Type 0
Counted q (Ok f) = f.columns ≡ length (tries q)
Counted q (Err fault) = Unit {0}

-- tries that never move back: each is in a later column than the one before it
abbrev pub Forward : List Try → Type 0
Forward [] = Unit {0}
Forward (t ∷ []) = Unit {0}
Forward (t ∷ (u ∷ later)) = (column_number t.column < column_number u.column) × Forward (u ∷ later)
