-- `worksheet::widths::put_ship_items` meets its contract: its five lines, one behind another.
use native.Mathlib.Omega.{arith}
use Rattle.lines.proofs.putting.Placing.{put_on}
use Rattle.worksheet.specs.Widths.{ship_items}
use Rattle.worksheet.proofs.widths.put_ship_items.Goals as goal

pub put_item-across-requires : goal.put_item-across-requires
put_item-across-requires c =
    (omega arith, omega (arith, c.put_item-wind.auto, c.put_item-lane.auto, c.put_item-wind.ensures.1, c.put_item-lane.ensures.1, c.requires))

pub put_item-alongside-requires : goal.put_item-alongside-requires
put_item-alongside-requires c =
    (omega arith, omega (arith, c.put_item-across.auto, c.put_item-wind.auto, c.put_item-lane.auto, c.put_item-across.ensures.1, c.put_item-wind.ensures.1, c.put_item-lane.ensures.1, c.requires))

pub put_item-requires : goal.put_item-requires
put_item-requires c =
    (omega arith, omega (arith, c.put_item-alongside.auto, c.put_item-across.auto, c.put_item-wind.auto, c.put_item-lane.auto, c.put_item-alongside.ensures.1, c.put_item-across.ensures.1, c.put_item-wind.ensures.1, c.put_item-lane.ensures.1, c.requires))

pub shape_of-buffer : goal.shape_of-buffer
shape_of-buffer c =
    omega (arith, c.put_item.auto, c.put_item-alongside.auto, c.put_item-across.auto, c.put_item-wind.auto, c.put_item-lane.auto)

pub returns : goal.returns
unfolding ship_items
returns c =
    let handling = rw c.handling_words.ensures at c.put_item-lane.ensures.0 in
    let wind = rw c.wind_words.ensures at c.put_item-wind.ensures.0 in
    let cross = rw c.cross_words.ensures at c.put_item-across.ensures.0 in
    let along = rw c.along_words.ensures at c.put_item-alongside.ensures.0 in
    let wave = rw c.wave_words.ensures at c.put_item.ensures.0 in (
      put_on
          (put_on
          (put_on
          (put_on handling wind (omega (arith, c.put_item-lane.ensures.1, c.requires)))
          cross
          (omega (arith, c.put_item-wind.ensures.1, c.put_item-lane.ensures.1, c.requires)))
          along
          (omega (arith, c.put_item-across.ensures.1, c.put_item-wind.ensures.1, c.put_item-lane.ensures.1, c.requires)))
          wave
          (omega (arith, c.put_item-alongside.ensures.1, c.put_item-across.ensures.1, c.put_item-wind.ensures.1, c.put_item-lane.ensures.1, c.requires)),
      omega (arith, c.put_item.ensures.1, c.put_item-alongside.ensures.1, c.put_item-across.ensures.1, c.put_item-wind.ensures.1, c.put_item-lane.ensures.1),
    )
