-- `lines::places` meets its contract. The loop's invariant: the count has the places passed and those of what is left.
use native.Mathlib.Omega.{arith}
use Rattle.lines.proofs.decimals.Digits.{places_one, places_two, places_three, places_four, places_four_more, places_at_most}
use Rattle.lines.proofs.within.places.Goals as goal

pub loop-rest-init : goal.loop-rest-init
loop-rest-init c = (omega arith, places_at_most 19 c.args.count (omega arith))

pub loop-rest-preserved : goal.loop-rest-preserved
loop-rest-preserved c = (omega (arith, places_four_more c.loop-rest.rest (omega arith)), c.loop-rest.invariant.1)

pub returns-then-rest-lt10 : goal.returns-then-rest-lt10
returns-then-rest-lt10 c = omega (arith, places_one c.loop-rest.rest (omega arith))

pub returns-then-rest-lt100 : goal.returns-then-rest-lt100
returns-then-rest-lt100 c = omega (arith, places_two c.loop-rest.rest (omega arith) (omega arith))

pub returns-then-rest-lt1000 : goal.returns-then-rest-lt1000
returns-then-rest-lt1000 c = omega (arith, places_three c.loop-rest.rest (omega arith) (omega arith))

pub returns : goal.returns
returns c = omega (arith, places_four c.loop-rest.rest (omega arith) (omega arith))
