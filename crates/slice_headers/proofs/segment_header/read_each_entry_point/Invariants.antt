use Rattle.spec_slice_headers.specs.SegmentHeader.{entry_point}
use Rattle.slice_fields.proofs.Items.{AreRead}
use Rattle.slice_headers.proofs.segment_header.read_each_entry_point.Given as goal

abbrev pub invariant-loop : goal.invariant-loop
invariant-loop l = AreRead (entry_point l.len) l.count l.counter l.fn.reader l.offsets l.reader
