-- `lines::put_letter_line` meets its contract: the letter, the counts behind it, the newline after them.
use Rattle.lines.proofs.putting.Placing.{byte_then, then_byte}
use native.Mathlib.Omega.{arith}
use Rattle.lines.proofs.put_letter_line.Goals as goal

pub returns : goal.returns
returns c = then_byte 10 (byte_then c.put_words-last.ensures.0 (omega arith)) (omega arith)
