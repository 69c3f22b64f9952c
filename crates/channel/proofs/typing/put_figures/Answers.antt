-- The place for the bytes, and the bytes there.
use Rattle.channel.specs.Typing.{lines_at}
use Rattle.channel.proofs.Faults.{figures_put}
use Rattle.channel.proofs.typing.put_figures.Goals as goal

pub returns : goal.returns
returns c =
    let a = c.args in
    figures_put a.figures (lines_at a.out a.buffer.now) _ _ _ c.made_ready-ready.ensures c.put_sheet-at.ensures.0 c.put_sheet-at.ensures.1
