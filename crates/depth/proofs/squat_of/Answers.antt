-- `depth::squat_of` meets its contract: the table is the definition's, and a speed outside it is tested first.
use mathlib.Core.Path.{◌≡◌, refl}
use mathlib.Core.List.{[]}
use Prim.Native.Nat.{◌+◌, ◌*◌}
use borrow.Author.Rules.{rules}
use lib.ListN.{get_or}
use denote.Enum.Declared.{tag_of}
use Rattle.lanes.specs.declared.Lanes.{Lanes}
use Rattle.lanes.specs.declared.Lanes.TheVariants.{One, Two}
use Rattle.lanes.specs.contracts.Lanes as lanes
use Rattle.depth.specs.contracts.Column as columns
use Rattle.depth.specs.declared.Column.{Column}
use Rattle.depth.specs.declared.Column.TheVariants.{A, B, C}
use Rattle.depth.specs.declared.TheConstants.{SQUAT}
use Rattle.depth.specs.Squat.{squat_table, column_number, squat_reading}
use Rattle.depth.proofs.squat.Table.{outside, in_table}
use Rattle.depth.proofs.squat_of.Goals as goal

-- the row of a column and a reading
row_is : (l : Lanes) (k : Column)
    → get_or (get_or SQUAT (tag_of columns.the_type k) []) (tag_of lanes.the_type l) [] ≡ get_or squat_table (2 * column_number k + squat_reading l) []
row_is One A = refl
row_is Two A = refl
row_is One B = refl
row_is Two B = refl
row_is One C = refl
row_is Two C = refl

pub returns-then-not-contains : goal.returns-then-not-contains
returns-then-not-contains c = outside _ _ _ (λ from to. search rules)

pub returns : goal.returns
returns c =
    let a = c.args in
    rw (row_is a.lanes a.column) (in_table _ _ _ (search rules) (search rules))
