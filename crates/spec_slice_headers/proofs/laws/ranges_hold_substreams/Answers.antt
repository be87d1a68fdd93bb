use Rattle.spec_slice_headers.proofs.Ranges.{hold, are_inside}
use Rattle.spec_slice_headers.proofs.laws.ranges_hold_substreams.Goals as goal

pub returns-clause-value : goal.returns-clause-value
returns-clause-value c = hold

pub returns-clause-inside : goal.returns-clause-inside
returns-clause-inside c = are_inside
