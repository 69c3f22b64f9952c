-- The lines are those of the record that was loaded into a table of zeros.
use Rattle.gauge.specs.Table.{empty_table}
use Rattle.channel.proofs.Whole.{text_whole}
use Rattle.channel.proofs.print.Goals as goal

pub returns : goal.returns
unfolding empty_table
returns c =
    let a = c.args in
    text_whole a.form a.buffer.now c.requires c.load.new.table c.in_ok-counts.counts c.design_level.result
    c.print_lines.result c.print_lines.new.buffer c.in_ok-counts.ensures c.design_level.ensures c.print_lines.ensures
