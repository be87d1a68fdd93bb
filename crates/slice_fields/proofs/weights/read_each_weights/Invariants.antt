use Rattle.spec_slice_headers.specs.Weights.{weights_at}
use Rattle.slice_fields.proofs.Items.{AreReadBy}
use Rattle.slice_fields.proofs.weights.read_each_weights.Given as goal

abbrev pub invariant-loop-i : goal.invariant-loop-i
invariant-loop-i l = AreReadBy (weights_at l.lumas l.chromas) l.count l.i l.fn.reader l.weights l.reader
