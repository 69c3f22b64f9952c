-- `depth::finding_of` meets its contract: no entry and too much silt by lemmas named at the function, a way out for too deep a figure, and two where the figure falls.
use mathlib.Core.Path.{◌≡◌}
use native.Mathlib.Omega.{arith}
use borrow.Author.Rules.{rules}
use Rattle.depth.proofs.squat.Columns.{same_column}
use Rattle.depth.proofs.walks.Findings.{stays, moves}
use Rattle.depth.proofs.finding_of.Goals as goal

pub returns-then-eq : goal.returns-then-eq
returns-then-eq c =
    let t = c.args.tried in
    stays t (omega arith) (omega arith) (omega arith) (let same : t.falls_in ≡ t.column = search rules in rw same)

pub returns-else-eq : goal.returns-else-eq
returns-else-eq c =
    let t = c.args.tried in
    moves t (omega arith) (omega arith) (omega arith) (λ number. let same : t.falls_in ≡ t.column = same_column _ _ number in search rules)
