-- So many zeros.
use Rattle.channel.proofs.Faults.{zeros_long}
use Rattle.channel.proofs.reading.input_space.Goals as goal

pub returns : goal.returns
returns c = zeros_long 4194304
