use Rattle.spec_formats.specs.Fields.{u}
use Rattle.slice_fields.proofs.Items.{AreRead}
use Rattle.slice_headers.proofs.segment_header.read_extension_bytes.Given as goal

abbrev pub invariant-loop : goal.invariant-loop
invariant-loop l = AreRead (u 8) l.count l.counter l.fn.reader l.bytes l.reader
