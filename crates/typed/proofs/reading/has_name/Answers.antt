-- `typed::reading::has_name` meets its contract: what is put at the front of the array is the name.
use native.Mathlib.Omega.{arith}
use Rattle.typed.proofs.reading.Printed.{front_is}
use Rattle.typed.proofs.reading.has_name.Goals as goal

pub returns : goal.returns
returns c = rw (front_is c.put_name-end.ensures.0 (omega arith)) at c.begins_with.ensures
