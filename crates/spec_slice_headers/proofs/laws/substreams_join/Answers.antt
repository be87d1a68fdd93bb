use Rattle.spec_slice_headers.proofs.Cuts.{join}
use Rattle.spec_slice_headers.proofs.laws.substreams_join.Goals as goal

pub returns : goal.returns
returns c = join
