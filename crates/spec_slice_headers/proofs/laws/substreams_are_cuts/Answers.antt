use Rattle.spec_slice_headers.proofs.Cuts.{are_cuts}
use Rattle.spec_slice_headers.proofs.laws.substreams_are_cuts.Goals as goal

pub returns : goal.returns
returns c = λ unit i offsets two h. are_cuts unit i offsets two
