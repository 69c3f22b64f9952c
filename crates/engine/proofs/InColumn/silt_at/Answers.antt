-- `engine::InColumn::silt_at` meets its contract: no silt where s is not over N, else the part of what is dug.
use mathlib.Core.Path.{◌≡◌, sym, ◌∙◌}
use Prim.Native.Nat.{◌*◌, ◌^◌, ◌<◌}
use native.Mathlib.Omega.{arith}
use Rattle.laws.specs.Rounding.{up}
use Rattle.laws.proofs.Products.{product_lt}
use Rattle.laws.proofs.Rounding.{ceiling_is}
use Rattle.depth.proofs.cuts.Settling.{z4_none, z4_some}
use borrow.Author.Rules.{rules}
use Rattle.engine.proofs.InColumn.silt_at.Goals as goal

pub returns-then-s-natural : goal.returns-then-s-natural
returns-then-s-natural c = let a = c.args in (sym (z4_none a.self.stretch a.self.column (omega arith) a.d), omega arith)

pub returns : goal.returns
returns c =
    let a = c.args in
    let q = a.self.stretch in
    let yearly : q.silting * q.interval < 2 ^ 32 = product_lt 16 16 (search rules) (search rules) in
    let fallen : q.silting * q.interval * c.dug_of-h.result < 2 ^ 52 = product_lt 32 20 yearly (omega arith) in
    let reached : c.div_ceil.result ≡ up (q.silting * q.interval * c.dug_of-h.result) 100000 = c.div_ceil.ensures ∙ ceiling_is _ _ (omega arith) in
    (reached ∙ rw c.dug_of-h.ensures (sym (z4_some q a.self.column (omega arith) a.d)), rw reached (omega arith))
