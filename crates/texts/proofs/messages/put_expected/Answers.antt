-- `texts::messages::put_expected` meets its contract: the word of a sheet where none was begun, and else what is expected in the row.
use mathlib.Core.Path.{◌≡◌, refl}
use Prim.Native.Nat.{ℕ}
use native.Mathlib.Omega.{arith}
use Rattle.typed.specs.Lines.{expected_text}
use Rattle.texts.specs.Messages.{expected_for}
use Rattle.texts.specs.declared.LineFault.{LineFault}
use Rattle.texts.specs.declared.LineFault.TheVariants.{NoSheet, Missing, NoName, Twice, Misplaced, NoFigure, NoUnit, OutOfRange, Disagrees}
use Rattle.texts.proofs.putting.Typed.{expected_stands}
use Rattle.texts.proofs.messages.put_expected.Goals as goal

-- the faults but the first ask for their row
of_row : (fault : LineFault) (row : ℕ) → (fault ≡ NoSheet → ⊥) → expected_for fault row ≡ expected_text row
of_row NoSheet row h = absurd (h refl)
of_row Missing row h = refl
of_row NoName row h = refl
of_row Twice row h = refl
of_row Misplaced row h = refl
of_row NoFigure row h = refl
of_row NoUnit row h = refl
of_row OutOfRange row h = refl
of_row Disagrees row h = refl

pub returns-in-NoSheet : goal.returns-in-NoSheet
returns-in-NoSheet c = rw c.in-NoSheet.is ((c.put.ensures.put (omega arith)), omega arith)

pub returns : goal.returns
returns c =
    let a = c.args in
    rw (of_row a.fault a.row c.in_default.not-NoSheet) (expected_stands _ _ _ c.put_expected.ensures (omega arith))
