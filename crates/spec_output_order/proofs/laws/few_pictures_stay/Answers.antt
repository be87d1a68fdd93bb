use Rattle.spec_output_order.proofs.Bumping.{few_stay}
use Rattle.spec_output_order.proofs.laws.few_pictures_stay.Goals as goal

pub returns : goal.returns
returns c = few_stay
