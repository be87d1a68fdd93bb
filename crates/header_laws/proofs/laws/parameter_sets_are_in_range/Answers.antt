use Rattle.header_laws.proofs.PictureSets.{picture_set_in_range}
use Rattle.header_laws.proofs.SequenceSets.{sequence_set_in_range}
use Rattle.header_laws.proofs.laws.parameter_sets_are_in_range.Goals as goal

pub returns : goal.returns
returns c = record { sequence = sequence_set_in_range; picture = picture_set_in_range }
