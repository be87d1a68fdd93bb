use Rattle.spec_formats.specs.Fields.{flag}
use Rattle.slice_fields.proofs.Items.{AreRead}
use Rattle.slice_fields.proofs.weights.read_flags.Given as goal

abbrev pub invariant-loop : goal.invariant-loop
invariant-loop l = AreRead flag l.count l.counter l.fn.reader l.flags l.reader
