-- The texts of a whole input were put from the beginning of the buffer.
use Rattle.channel.proofs.Shows.{whole_shown}
use Rattle.channel.proofs.showing.show.Goals as goal

pub returns : goal.returns
returns c = whole_shown c.args.buffer.now c.requires c.in_ok-state.state c.show_all.new.buffer c.in_ok-state.ensures
