use Rattle.spec_intra_prediction.proofs.AngleTables.{below, towards, away, right}
use Rattle.spec_intra_prediction.proofs.laws.angles_are_mirrored.Goals as goal

pub returns : goal.returns
returns c = record { below = below; towards = towards; away = away; right = right }
