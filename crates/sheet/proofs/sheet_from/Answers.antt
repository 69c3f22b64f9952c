-- `sheet::sheet_from` meets its contract: each way out is a case of `sheet_from`.
use Rattle.sheet.proofs.fields.Runs.{named_none}
use Rattle.sheet.proofs.sheets.Making.{from_bad, from_good}
use Rattle.sheet.proofs.sheets.Valid.{fine_narrow, figures_end}
use Rattle.sheet.proofs.sheet_from.Goals as goal

pub returns-in-Some : goal.returns-in-Some
returns-in-Some c = from_bad _ _ c.first_bad.ensures _ c.in-Some.is

pub sheet_of-requires : goal.sheet_of-requires
sheet_of-requires c =
    fine_narrow c.args.figures (named_none _ _ c.first_bad.ensures c.in_default.is) (figures_end c.args.figures c.well_formed.0.1.0.1)

pub returns : goal.returns
returns c = from_good _ _ c.first_bad.ensures _ c.in_default.is c.sheet_of.ensures
