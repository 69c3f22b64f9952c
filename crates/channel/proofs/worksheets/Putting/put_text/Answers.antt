-- By the pass.
use Rattle.channel.proofs.worksheets.Putting.put_text.Goals as goal

pub returns-in-Pages : goal.returns-in-Pages
returns-in-Pages c = rw c.in-Pages.is c.put_page.ensures

pub returns-in-Stretches : goal.returns-in-Stretches
returns-in-Stretches c = rw c.in-Stretches.is c.put_stretch.ensures
