-- The total: the lane and what is added stand in it once or twice.
use mathlib.Core.Path.{◌≡◌, refl}
use Prim.Native.Nat.{◌+◌, ◌*◌}
use Rattle.lanes.specs.declared.Lanes.TheVariants.{One, Two}
use Rattle.width.specs.Width.{lane_and_added, tenths_of}
use Rattle.width.specs.declared.Items.{Items}

pub one_lane_total : (items : Items) → tenths_of One items ≡ lane_and_added items + items.banks
unfolding tenths_of
one_lane_total items = refl

pub two_lanes_total : (items : Items) → tenths_of Two items ≡ 2 * lane_and_added items + items.banks + items.passing + items.traffic
unfolding tenths_of
two_lanes_total items = refl
