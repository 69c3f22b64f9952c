-- The codes of the sheets that came to their depth. By the reasons, each with the numbers of its room.
use Rattle.std.specs.Prelude.{Result, Ok, Err}
use mathlib.Core.Path.{◌≡◌, refl, sym, ◌∙◌}
use mathlib.Core.Bool.{true, false, true≢false}
use mathlib.Core.Logic.{◌↔◌, ◌⊎◌, inl, inr}
use Prim.Native.Nat.{ℕ, ◌≤◌}
use native.Mathlib.Omega.{arith}
use Rattle.sheet.specs.declared.ReadFault.TheVariants.{WrongLength, SpareBitSet, BadField}
use Rattle.gauge.specs.declared.LevelFault.TheVariants.{WrongTable, TooFewReadings, RangeTooWide}
use Rattle.width.specs.declared.WidthFault.TheVariants.{BendTooTight, NoWidthEntry}
use Rattle.depth.specs.declared.DepthFault.TheVariants.{NoSquatEntry, SiltOver, CutOver}
use Rattle.speed.specs.declared.SpeedFault.TheVariants.{PointMissing, TooFast}
use Rattle.design.specs.Numbers.{code_of}
use Rattle.design.specs.declared.Reason.TheVariants.{NoSheet, NoShip, NoLevel, NoWidth, NoDepth, NoSpeed}
use Rattle.both.specs.Both.{came_to, DepthReached}
use Rattle.design.specs.declared.Reason.{Reason}
use Rattle.design.specs.declared.Figures.{Figures}

-- a code that is none of theirs
not_reached : {code : ℕ} → 1 ≤ code → (code ≤ 12) ⊎ (18 ≤ code) → ¬ DepthReached code
not_reached {code} h (inl k) (inl e) = omega arith
not_reached {code} h (inl k) (inr r) = omega (arith, r.0)
not_reached {code} h (inr k) (inl e) = omega arith
not_reached {code} h (inr k) (inr r) = omega (arith, r.1)

-- neither side holds, or both do
neither : (a : Result Figures Reason) → came_to a ≡ false → ¬ DepthReached (code_of a) → (came_to a ≡ true) ↔ DepthReached (code_of a)
neither a e n = ((λ t. absurd (true≢false (sym t ∙ e))), (λ r. absurd (n r)))

each : (a : Result Figures Reason) → came_to a ≡ true → DepthReached (code_of a) → (came_to a ≡ true) ↔ DepthReached (code_of a)
each a e r = ((λ t. r), (λ s. e))

pub came_exactly : (a : Result Figures Reason) → (came_to a ≡ true) ↔ DepthReached (code_of a)
came_exactly (Ok f) = each (Ok f) refl (inl refl)
came_exactly (Err (NoSheet WrongLength)) = neither (Err (NoSheet WrongLength)) refl (not_reached (omega arith) (inl (omega arith)))
came_exactly (Err (NoSheet SpareBitSet)) = neither (Err (NoSheet SpareBitSet)) refl (not_reached (omega arith) (inl (omega arith)))
came_exactly (Err (NoSheet (BadField k))) = neither (Err (NoSheet (BadField k))) refl (not_reached (omega arith) (inl (omega arith)))
came_exactly (Err NoShip) = neither (Err NoShip) refl (not_reached (omega arith) (inr (omega arith)))
came_exactly (Err (NoLevel WrongTable)) = neither (Err (NoLevel WrongTable)) refl (not_reached (omega arith) (inl (omega arith)))
came_exactly (Err (NoLevel TooFewReadings)) = neither (Err (NoLevel TooFewReadings)) refl (not_reached (omega arith) (inl (omega arith)))
came_exactly (Err (NoLevel RangeTooWide)) = neither (Err (NoLevel RangeTooWide)) refl (not_reached (omega arith) (inl (omega arith)))
came_exactly (Err (NoWidth BendTooTight)) = neither (Err (NoWidth BendTooTight)) refl (not_reached (omega arith) (inl (omega arith)))
came_exactly (Err (NoWidth NoWidthEntry)) = neither (Err (NoWidth NoWidthEntry)) refl (not_reached (omega arith) (inl (omega arith)))
came_exactly (Err (NoDepth NoSquatEntry)) = each (Err (NoDepth NoSquatEntry)) refl (inr (omega arith, omega arith))
came_exactly (Err (NoDepth SiltOver)) = each (Err (NoDepth SiltOver)) refl (inr (omega arith, omega arith))
came_exactly (Err (NoDepth CutOver)) = each (Err (NoDepth CutOver)) refl (inr (omega arith, omega arith))
came_exactly (Err (NoSpeed PointMissing)) = each (Err (NoSpeed PointMissing)) refl (inr (omega arith, omega arith))
came_exactly (Err (NoSpeed TooFast)) = each (Err (NoSpeed TooFast)) refl (inr (omega arith, omega arith))
