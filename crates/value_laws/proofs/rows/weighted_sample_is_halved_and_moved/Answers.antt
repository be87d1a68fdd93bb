use Rattle.std.proofs.Common.{refl}
use Rattle.spec_inter_prediction.specs.Luma.{luma_sample, quarter}
use Rattle.spec_inter_prediction.specs.Taps.{luma_taps}
use Rattle.spec_inter_prediction.specs.Weighting.{explicit_one, rounded_if_shifted, weighted_one}
use Rattle.value_laws.specs.Rows.{half_weight}
use Rattle.value_laws.proofs.rows.weighted_sample_is_halved_and_moved.Goals as goal

pub returns : goal.returns
unfolding luma_sample quarter luma_taps explicit_one rounded_if_shifted weighted_one half_weight
returns c = refl
