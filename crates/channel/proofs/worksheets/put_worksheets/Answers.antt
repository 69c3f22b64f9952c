-- The pages, the head of the route, its stretches and its end, one behind another.
use Rattle.std.specs.Prelude.{Option}
use Prim.Native.Nat.{ℕ}
use Rattle.channel.proofs.Bundles.{in_turn_lem, whole_text}
use Rattle.channel.proofs.Bytes.{rest_told}
use Rattle.channel.specs.Worksheets.{items_of, WorksheetsOut}
use Rattle.channel.proofs.worksheets.put_worksheets.Goals as goal

pub returns : goal.returns
returns c =
    let a = c.args in
    let foot = c.put_foot in
    rw c.rest.ensures
    (rest_told (λ (rest : Option ℕ). WorksheetsOut a.source a.steps a.counts a.input.now a.buffer.now rest foot.new.buffer) foot.result
    (whole_text a.steps a.counts (items_of a.source a.input.now) a.buffer.now _ _ c.requires
    (in_turn_lem a.steps a.counts (items_of a.source a.input.now) c.at_first-first.result c.put_all-pages.result c.at_first-again.result
    c.put_all-stretches.result _ c.put_head-head.result a.buffer.now _ _ _ _ c.at_first-first.ensures c.put_all-pages.ensures c.put_head-head.ensures
    c.at_first-again.ensures c.put_all-stretches.ensures foot.ensures)) tt)
