-- `speed::lines::weighed_of` meets its contract: each part is small enough for their sum.
use borrow.Author.Rules.{rules}
use Rattle.speed.proofs.lines.Sizes.{part_small}
use Rattle.speed.proofs.lines.weighed_of.Goals as goal

pub together_of-requires : goal.together_of-requires
together_of-requires c = (
  rw c.part_of.ensures (part_small _ _ (search rules) c.requires.0),
  rw c.part_of-2.ensures (part_small _ _ (search rules) c.requires.1),
)
