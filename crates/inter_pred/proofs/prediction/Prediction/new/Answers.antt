use Rattle.std.proofs.Common.{refl}
use Rattle.inter_pred.proofs.Holding.{nothing_at}
use Rattle.inter_pred.proofs.prediction.Prediction.new.Goals as goal

pub returns : goal.returns
returns c = nothing_at 4096 _ refl
