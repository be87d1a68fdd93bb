use Rattle.spec_slice_data.proofs.Segments.{segment_spelled}
use Rattle.spec_slice_data.proofs.laws.slice_segment_data_are_spelled.Goals as goal

pub returns : goal.returns
returns c = segment_spelled
