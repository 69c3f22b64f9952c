-- What a try comes to: the ways out of the code's tests, and what each finding says.
use Rattle.std.specs.Prelude.{Result, Ok, Err}
use mathlib.Core.Path.{◌≡◌, refl, subst}
use mathlib.Core.Bool.{Bool, true, false}
use Prim.Native.Nat.{◌≤◌, ◌<◌}
use native.Mathlib.Omega.{arith}
use borrow.Author.Tests.{leb-true, leb-false, ltb-true, ltb-false, eqb-true, eqb-false, le-leb, lt-leb, lt-ltb, le-ltb, eq-eqb, ne_eqb}
use lib.Dec.{leb, ltb, eqb}
use Rattle.laws.specs.Choice.{ifᵇ◌then◌else◌}
use Rattle.depth.specs.declared.Try.{Try}
use Rattle.depth.specs.declared.DepthFault.{DepthFault}
use Rattle.depth.specs.declared.DepthFault.TheVariants.{NoSquatEntry, SiltOver, CutOver}
use Rattle.depth.specs.declared.Finding.TheVariants.{Stays, Moves}
use Rattle.depth.specs.Squat.{none, column_number}
use Rattle.depth.specs.Depth.{depth_fault_number}
use Rattle.depth.specs.Worksheet.{finding_of}
use Rattle.depth.specs.declared.Finding.{Finding}

module _ (t : Try) where
  pub no_entry : none ≤ t.squat → Err NoSquatEntry ≡ finding_of t
  unfolding finding_of
  no_entry h = simp (le-leb _ _ h)

  pub too_much_silt : t.squat < none → 120 < t.silt → Err SiltOver ≡ finding_of t
  unfolding finding_of
  too_much_silt e h = simp (lt-leb _ _ e, lt-ltb _ _ h)

  pub too_deep : t.squat < none → t.silt ≤ 120 → 3000 < t.figure.0 → Err CutOver ≡ finding_of t
  unfolding finding_of
  too_deep e s h = simp (lt-leb _ _ e, le-ltb _ _ s, lt-ltb _ _ h)

  pub stays : t.squat < none → t.silt ≤ 120 → t.figure.0 ≤ 3000 → column_number t.falls_in ≡ column_number t.column
      → (Ok Stays) ≡ finding_of t
  unfolding finding_of
  stays e s h k = simp (lt-leb _ _ e, le-ltb _ _ s, le-ltb _ _ h, eq-eqb _ _ k)

  pub moves : t.squat < none → t.silt ≤ 120 → t.figure.0 ≤ 3000
      → (column_number t.falls_in ≡ column_number t.column → ⊥) → (Ok Moves) ≡ finding_of t
  unfolding finding_of
  moves e s h k = simp (lt-leb _ _ e, le-ltb _ _ s, le-ltb _ _ h, ne_eqb _ _ k)

-- a try within its limits
pub record Within (t : Try) : Type 0 where
  pub entry : t.squat < none
  pub silt : t.silt ≤ 120
  pub to : t.figure.0 ≤ 3000

-- a try past a limit, and past none before it
abbrev pub Past : Try → DepthFault → Type 0
Past t NoSquatEntry = none ≤ t.squat
Past t SiltOver = (t.squat < none) × (120 < t.silt)
Past t CutOver = (t.squat < none) × (t.silt ≤ 120) × (3000 < t.figure.0)

pub not_within : (t : Try) (fault : DepthFault) → Past t fault → Within t → ⊥
not_within t NoSquatEntry p w = omega (arith, w.entry)
not_within t SiltOver p w = omega (arith, w.silt)
not_within t CutOver p w = omega (arith, w.to)

-- the numbers of the faults
pub fault_known : (fault : DepthFault) → (13 ≤ depth_fault_number fault) × (depth_fault_number fault ≤ 15)
fault_known NoSquatEntry = omega arith
fault_known SiltOver = omega arith
fault_known CutOver = omega arith

-- what a finding says of its try
abbrev pub Says : Try → Result Finding DepthFault → Type 0
Says t (Ok Stays) = Within t × (column_number t.falls_in ≡ column_number t.column)
Says t (Ok Moves) = Within t × (column_number t.falls_in ≡ column_number t.column → ⊥)
Says t (Err fault) = Past t fault

pub finding_says : (t : Try) → Says t (finding_of t)
unfolding finding_of
finding_says t =
    go (leb none t.squat) (ltb 120 t.silt) (ltb 3000 t.figure.0) (eqb (column_number t.falls_in) (column_number t.column))
    refl refl refl refl
  where
    go : (a b d e : Bool) → leb none t.squat ≡ a → ltb 120 t.silt ≡ b → ltb 3000 t.figure.0 ≡ d
        → eqb (column_number t.falls_in) (column_number t.column) ≡ e
        → Says t (ifᵇ a then Err NoSquatEntry else (ifᵇ b then Err SiltOver else (ifᵇ d then Err CutOver else (ifᵇ e then (Ok Stays) else (Ok Moves)))))
    go true b d e ea eb ed ee = leb-true _ _ ea
    go false true d e ea eb ed ee = (leb-false _ _ ea, ltb-true _ _ eb)
    go false false true e ea eb ed ee = (leb-false _ _ ea, ltb-false _ _ eb, ltb-true _ _ ed)
    go false false false true ea eb ed ee =
        (record { entry = leb-false _ _ ea; silt = ltb-false _ _ eb; to = ltb-false _ _ ed }, eqb-true _ _ ee)
    go false false false false ea eb ed ee =
        (record { entry = leb-false _ _ ea; silt = ltb-false _ _ eb; to = ltb-false _ _ ed }, eqb-false _ _ ee)

pub stays_within : (t : Try) → finding_of t ≡ (Ok Stays) → Within t
stays_within t e = (subst (Says t) e (finding_says t)).0
