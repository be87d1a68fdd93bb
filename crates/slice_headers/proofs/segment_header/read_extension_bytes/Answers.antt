use Rattle.spec_formats.specs.Fields.{u}
use Rattle.slice_fields.proofs.Items.{stops}
use Rattle.slice_headers.proofs.segment_header.read_extension_bytes.Goals as goal

pub returns-in_err-u : goal.returns-in_err-u
returns-in_err-u c =
    stops (u 8) c.args.count c.loop.counter c.args.reader.now c.loop.bytes c.loop.reader c.u.new.self
    c.in_err-u.field-0.0 _ c.loop.invariant c.loop-test.true c.in_err-u.ensures.value c.from_residual.ensures.1
