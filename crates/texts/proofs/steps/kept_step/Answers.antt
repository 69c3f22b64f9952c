-- `texts::steps::kept_step` meets its contract: a line that begins a sheet, and any other by its stage.
use Rattle.texts.specs.Steps.{step_of}
use Rattle.texts.proofs.steps.kept_step.Goals as goal

pub returns-then-begins_sheet : goal.returns-then-begins_sheet
unfolding step_of
returns-then-begins_sheet c = rw (← c.begins_sheet.ensures, c.if-begins_sheet.true) c.begin_step.ensures

pub returns-in-Between : goal.returns-in-Between
unfolding step_of
returns-in-Between c = rw (← c.begins_sheet.ensures, c.if-begins_sheet.false, c.in-Between.is) c.refused_by.ensures

pub returns-in-Skipping : goal.returns-in-Skipping
unfolding step_of
returns-in-Skipping c = rw (← c.begins_sheet.ensures, c.if-begins_sheet.false, c.in-Skipping.is)

pub returns-in-InRow : goal.returns-in-InRow
unfolding step_of
returns-in-InRow c = rw (← c.begins_sheet.ensures, c.if-begins_sheet.false, c.in-InRow.is) c.row_step.ensures
