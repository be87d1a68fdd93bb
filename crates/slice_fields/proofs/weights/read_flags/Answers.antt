use Rattle.spec_formats.specs.Fields.{flag}
use Rattle.slice_fields.proofs.Items.{stops}
use Rattle.slice_fields.proofs.weights.read_flags.Goals as goal

pub returns-in_err-flag : goal.returns-in_err-flag
returns-in_err-flag c =
    stops flag c.args.count c.loop.counter c.args.reader.now c.loop.flags c.loop.reader c.flag.new.self
    c.in_err-flag.field-0.0 _ c.loop.invariant c.loop-test.true c.in_err-flag.ensures c.from_residual.ensures.1
