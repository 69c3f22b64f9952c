-- `worksheet::widths::put_bed_items` meets its contract: its four lines, one behind another.
use native.Mathlib.Omega.{arith}
use Rattle.lines.proofs.putting.Placing.{put_on}
use Rattle.worksheet.specs.Widths.{bed_items}
use Rattle.worksheet.proofs.widths.put_bed_items.Goals as goal

pub put_item-depth-requires : goal.put_item-depth-requires
put_item-depth-requires c =
    (omega arith, omega (arith, c.put_item-bed.auto, c.put_item-aids.auto, c.put_item-bed.ensures.1, c.put_item-aids.ensures.1, c.requires))

pub put_item-requires : goal.put_item-requires
put_item-requires c =
    (omega arith, omega (arith, c.put_item-depth.auto, c.put_item-bed.auto, c.put_item-aids.auto, c.put_item-depth.ensures.1, c.put_item-bed.ensures.1, c.put_item-aids.ensures.1, c.requires))

pub shape_of-buffer : goal.shape_of-buffer
shape_of-buffer c =
    omega (arith, c.put_item.auto, c.put_item-depth.auto, c.put_item-bed.auto, c.put_item-aids.auto)

pub returns : goal.returns
unfolding bed_items
returns c =
    let aids = rw c.aids_words.ensures at c.put_item-aids.ensures.0 in
    let bed = rw c.bed_words.ensures at c.put_item-bed.ensures.0 in
    let depth = rw c.depth_words.ensures at c.put_item-depth.ensures.0 in
    let cargo = rw c.cargo_words.ensures at c.put_item.ensures.0 in (
      put_on
          (put_on
          (put_on aids bed (omega (arith, c.put_item-aids.ensures.1, c.requires)))
          depth
          (omega (arith, c.put_item-bed.ensures.1, c.put_item-aids.ensures.1, c.requires)))
          cargo
          (omega (arith, c.put_item-depth.ensures.1, c.put_item-bed.ensures.1, c.put_item-aids.ensures.1, c.requires)),
      omega (arith, c.put_item.ensures.1, c.put_item-depth.ensures.1, c.put_item-bed.ensures.1, c.put_item-aids.ensures.1),
    )
