-- `engine::reason_of` meets its contract: the reason from where the loop stands is that of the whole.
use mathlib.Core.Path.{◌≡◌, refl, sym, ◌∙◌}
use Prim.Native.Nat.{◌+◌, ◌-◌}
use native.Mathlib.Omega.{arith}
use Rattle.engine.specs.declared.TheConstants.{COLUMNS}
use Rattle.engine.specs.Plain.{reason_of}
use Rattle.engine.proofs.Tests.{fails_here, falls_on, none_left}
use Rattle.engine.proofs.reason_of.Goals as goal

pub loop-init : goal.loop-init
unfolding reason_of
loop-init c = refl

pub returns-in-Err : goal.returns-in-Err
returns-in-Err c =
    fails_here c.args.stretch (COLUMNS - c.loop.counter) c.loop.column _ (omega arith) (sym c.ruling.ensures ∙ c.in-Err.is) ∙ c.loop.invariant

pub loop-preserved : goal.loop-preserved
loop-preserved c =
    let fewer : COLUMNS - (c.loop.counter + 1) ≡ COLUMNS - c.loop.counter - 1 = omega arith in
    rw fewer (falls_on c.args.stretch (COLUMNS - c.loop.counter) c.loop.column _ (omega arith) (sym c.ruling.ensures ∙ c.in-Ok.is) ∙ c.loop.invariant)

pub returns : goal.returns
returns c = none_left c.args.stretch (COLUMNS - c.loop.counter) c.loop.column (omega arith) ∙ c.loop.invariant
