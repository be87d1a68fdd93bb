use Rattle.spec_slice_headers.specs.SegmentHeader.{entry_point}
use Rattle.slice_fields.proofs.Items.{stops}
use Rattle.slice_headers.proofs.segment_header.read_each_entry_point.Goals as goal

pub returns-in_err-read_entry_point : goal.returns-in_err-read_entry_point
returns-in_err-read_entry_point c =
    stops (entry_point c.args.len) c.args.count c.loop.counter c.args.reader.now c.loop.offsets c.loop.reader
    c.read_entry_point.new.reader c.in_err-read_entry_point.field-0.0 _ c.loop.invariant c.loop-test.true
    c.in_err-read_entry_point.ensures c.from_residual.ensures.1
