-- Each block is put behind those before it.
use mathlib.Core.Path.{refl, ◌∙◌}
use Rattle.channel.specs.Showing.{progress, at_first}
use Rattle.channel.proofs.Shows.{shows}
use Rattle.channel.proofs.Taking.{begun, taken_on, taken_whole}
use Rattle.channel.proofs.showing.show_all.Goals as goal

pub loop-init : goal.loop-init
loop-init c = let a = c.args in record { long = refl; read = begun shows (at_first a.buffer.now) }

pub loop-preserved : goal.loop-preserved
loop-preserved c =
    let l = c.loop in
    let a = c.args in
    let some = c.show_some-filled in
    let long = some.auto.space ∙ l.invariant.long in record {
      long = long;
      read =
          taken_on shows (at_first a.buffer.now) (progress l.state l.buffer) (progress some.new.state some.new.buffer) some.result some.new.space
          (rw long at some.ensures.filling) long some.ensures.sheets_shown_is c.in-Full.is l.invariant.read;
    }

pub returns-in-Ended : goal.returns-in-Ended
returns-in-Ended c =
    let l = c.loop in
    let a = c.args in
    let some = c.show_some-filled in
    let long = some.auto.space ∙ l.invariant.long in
    taken_whole shows (at_first a.buffer.now) (progress l.state l.buffer) (progress some.new.state some.new.buffer) some.result some.new.space
    (rw long at some.ensures.filling) long some.ensures.sheets_shown_is c.in-Ended.is l.invariant.read
