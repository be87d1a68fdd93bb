use Rattle.spec_slice_headers.specs.InterFields.{list_entry}
use Rattle.slice_fields.proofs.Items.{stops}
use Rattle.slice_fields.proofs.inter_fields.read_list_entries.Goals as goal

pub returns-in_err-read_list_entry : goal.returns-in_err-read_list_entry
returns-in_err-read_list_entry c =
    stops (list_entry c.args.total) c.args.count c.loop.counter c.args.reader.now c.loop.entries c.loop.reader
    c.read_list_entry.new.reader c.in_err-read_list_entry.field-0.0 _ c.loop.invariant c.loop-test.true
    c.in_err-read_list_entry.ensures c.from_residual.ensures.1
