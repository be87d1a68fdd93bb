use Rattle.spec_intra_prediction.proofs.AngleTables.{horizontal, vertical}
use Rattle.spec_intra_prediction.proofs.laws.inverse_angles_are_quotients.Goals as goal

pub returns : goal.returns
returns c = record { horizontal = horizontal; vertical = vertical }
