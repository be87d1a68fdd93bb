-- The parameter sets that are read.
use Rattle.std.proofs.Common.{◌≡◌, Ok, refl}
use Rattle.spec_parameter_sets.specs.PictureParameterSet.{picture_parameter_set_of}
use Rattle.spec_parameter_sets.specs.SequenceParameterSet.{sequence_parameter_set_of}
use Rattle.spec_made.specs.Headers.{picture_payload, sequence_payload}
use Rattle.made_laws.specs.Sets.{made_pps, made_sps}
use Rattle.made_laws.proofs.Computed.{sets_computed}

pub sequence_set : sequence_parameter_set_of sequence_payload ≡ Ok made_sps
unfolding sets_computed
sequence_set = refl

pub picture_set : picture_parameter_set_of picture_payload ≡ Ok made_pps
unfolding sets_computed
picture_set = refl
