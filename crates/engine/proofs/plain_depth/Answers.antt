-- `engine::plain_depth` meets its contract: the first cut and its figures, or the reason why there is none.
use Rattle.std.specs.Prelude.{Ok, Err}
use mathlib.Core.Path.{sym, ap, ◌∙◌}
use Rattle.engine.specs.Plain.{by_search, plain_depth}
use Rattle.engine.proofs.Straight.{cut_found}
use Rattle.engine.proofs.plain_depth.Goals as goal

pub figures_at-requires : goal.figures_at-requires
figures_at-requires c = cut_found c.args.stretch _ (sym c.first_cut.ensures ∙ c.in-Some.is)

pub returns-in-Some : goal.returns-in-Some
unfolding plain_depth
returns-in-Some c =
    let a = c.args in
    ap Ok c.figures_at.ensures ∙ ap (by_search a.stretch) (sym c.in-Some.is ∙ c.first_cut.ensures)

pub returns-in-None : goal.returns-in-None
unfolding plain_depth
returns-in-None c =
    let a = c.args in
    ap Err c.reason_of.ensures ∙ ap (by_search a.stretch) (sym c.in-None.is ∙ c.first_cut.ensures)
