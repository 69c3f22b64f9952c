-- `lines::words::put_numbers` meets its contract: the two runs are all the numbers.
use mathlib.Core.Path.{◌≡◌}
use Prim.Native.Nat.{◌-◌}
use native.Mathlib.Omega.{arith}
use borrow.Author.Rules.{rules}
use lib.ListN.{length, drop, length-take, length-drop}
use Rattle.lines.specs.Decimals.{number_text}
use Rattle.design.specs.Numbers.{number_count}
use Rattle.lines.proofs.putting.Spacing.{two_runs}
use Rattle.lines.proofs.words.put_numbers.Goals as goal

pub returns : goal.returns
returns c =
    let a = c.args in
    let all : length a.numbers ≡ number_count = search rules in
    let first = length-take 7 a.numbers in
    let last = length-take 6 (drop 7 a.numbers) in
    let rest = length-drop 7 a.numbers in
    (two_runs number_text a.numbers 7 (number_count - 7) (omega arith) c.put_words-middle.ensures.0 c.put_words.ensures.0 (omega arith), omega arith)
