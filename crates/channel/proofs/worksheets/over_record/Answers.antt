-- The worksheets are those over the record that was loaded into a table of zeros.
use Rattle.channel.proofs.Bundles.{over_file}
use Rattle.gauge.specs.Table.{empty_table}
use Rattle.channel.proofs.worksheets.over_record.Goals as goal

pub returns : goal.returns
unfolding empty_table
returns c =
    let a = c.args in
    over_file a.source a.input.now a.buffer.now _ c.load.new.table c.level_steps.result c.in_ok-counts.counts c.put_faultless.result
    c.in_ok-counts.ensures c.level_steps.ensures c.put_faultless.ensures
