use Rattle.std.proofs.Common.{refl}
use Rattle.spec_intra_prediction.specs.PlanarDc.{dc, mean_beside}
use Rattle.spec_intra_prediction.specs.Prediction.{predicted_from}
use Rattle.spec_intra_prediction.specs.Smoothing.{filtered, is_filtered}
use Rattle.value_laws.specs.Rows.{dc_block, levelled_block, levelled_row, neighbours}
use Rattle.value_laws.proofs.rows.dc_levels_at_two_edges.Goals as goal

pub returns : goal.returns
unfolding dc mean_beside predicted_from filtered is_filtered dc_block levelled_block levelled_row neighbours
returns c = λ corner. refl
