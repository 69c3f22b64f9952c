-- Each block is put behind those before it.
use mathlib.Core.Path.{refl, ◌∙◌}
use Rattle.channel.specs.Printing.{progress, at_first}
use Rattle.channel.proofs.Printing.{printing, begun_at}
use Rattle.channel.proofs.Taking.{taken_on, taken_whole}
use Rattle.channel.proofs.sheets.Printer.print_all.Goals as goal

pub loop-init : goal.loop-init
loop-init c = let a = c.args in record { long = refl; read = begun_at a.self.form a.self.level c.new.result a.at a.buffer.now c.new.ensures }

pub loop-preserved : goal.loop-preserved
loop-preserved c =
    let l = c.loop in
    let a = c.args in
    let some = c.print_some-filled in
    let long = some.auto.space ∙ l.invariant.long in record {
      long = long;
      read =
          taken_on (printing a.self.form a.self.level) (at_first a.at a.buffer.now) (progress l.state l.buffer) (progress some.new.state some.new.buffer) some.result some.new.space
          (rw long at some.ensures.filling) long some.ensures.sheets_printed_is c.in-Full.is l.invariant.read;
    }

pub returns-in-Ended : goal.returns-in-Ended
returns-in-Ended c =
    let l = c.loop in
    let a = c.args in
    let some = c.print_some-filled in
    let long = some.auto.space ∙ l.invariant.long in
    taken_whole (printing a.self.form a.self.level) (at_first a.at a.buffer.now) (progress l.state l.buffer) (progress some.new.state some.new.buffer) some.result some.new.space
    (rw long at some.ensures.filling) long some.ensures.sheets_printed_is c.in-Ended.is l.invariant.read
